use Rattle.attribute_map.specs.Data.{changed}
use Rattle.attribute_blocks.specs.Blk.{blk_cell, set_at}
use Rattle.attribute_map.proofs.Steps.{After}
use Rattle.attribute_blocks.proofs.attr_blk.Given as goal

abbrev pub invariant-loop-i : goal.invariant-loop-i
invariant-loop-i l = After (λ i. changed (blk_cell (set_at l.d i))) l.initial.m l.m l.i
