use Rattle.attribute_map.specs.Map.{cell}
use Rattle.attribute_map.proofs.Painting.{Painting}
use Rattle.attribute_map.proofs.changed.Given as goal

abbrev pub invariant-loop-x : goal.invariant-loop-x
invariant-loop-x g l = Painting (λ x y v. goal.F-post g l.rule x y (cell l.map x y) v) l.m l.y l.x

abbrev pub invariant-loop-y : goal.invariant-loop-y
invariant-loop-y g l = Painting (λ x y v. goal.F-post g l.rule x y (cell l.map x y) v) l.m l.y 0
