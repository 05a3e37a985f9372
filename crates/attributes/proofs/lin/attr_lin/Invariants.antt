use Prim.Native.Nat.{◌+◌}
use lib.ListN.{get_or}
use Rattle.attribute_map.specs.Data.{changed}
use Rattle.attributes.specs.Lin.{lin_cell}
use Rattle.attribute_map.proofs.Steps.{After}
use Rattle.attributes.proofs.lin.attr_lin.Given as goal

abbrev pub invariant-loop-i : goal.invariant-loop-i
invariant-loop-i l = After (λ i. changed (lin_cell (get_or l.d (2 + i) 0))) l.initial.m l.m l.i
