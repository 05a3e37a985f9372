-- Each turn stores what the rule gives for its own cell, and every cell has its turn.
use native.Mathlib.Omega.{arith}
use Rattle.attribute_map.specs.Map.{cell}
use Rattle.attribute_map.proofs.Painting.{painting_none, painting_turn, painting-row, painting_all}
use Rattle.attribute_map.proofs.Sizes.{sized}
use Rattle.attribute_map.proofs.changed.Goals as goal

pub loop-y-init : goal.loop-y-init
loop-y-init g c = painting_none (sized _ _ c.well_formed.0)

pub loop-x-preserved : goal.loop-x-preserved
loop-x-preserved g c = painting_turn c.loop-x.invariant _ (omega arith) (omega arith) c.rule.ensures

pub loop-y-preserved : goal.loop-y-preserved
loop-y-preserved g c = painting-row c.loop-x.invariant (omega arith)

pub returns : goal.returns
returns g c = λ f h. painting_all c.loop-y.invariant (omega arith) (λ x y. f x y (cell c.args.map x y)) (λ x y v p. h x y (cell c.args.map x y) v p)
