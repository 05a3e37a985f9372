-- Each turn does the next set, and the turns end where the announced sets or the whole ones do.
use mathlib.Core.Path.{ap, ◌∙◌}
use native.Mathlib.Omega.{arith}
use Rattle.attribute_map.specs.Data.{changed, steps}
use Rattle.attribute_blocks.specs.Blk.{blk_cell, set_at, blk_map}
use Rattle.attribute_map.proofs.Steps.{after_none, after_more}
use Rattle.attribute_blocks.proofs.attr_blk.Goals as goal

pub loop-i-init : goal.loop-i-init
loop-i-init c = after_none

pub loop-i-preserved : goal.loop-i-preserved
loop-i-preserved c = after_more c.loop-i.invariant (c.one_set-next.ensures ∙ rw c.at.ensures)

pub returns : goal.returns
unfolding blk_map
returns c =
    let s = c.args in
    c.loop-i.invariant.is ∙ ap (λ n. steps (λ i. changed (blk_cell (set_at s.d.now i))) n s.map) (omega arith)
