-- Each turn does the next byte's line, and the turns end where the announced bytes or the data do.
use mathlib.Core.Path.{ap, ◌∙◌}
use Prim.Native.Nat.{◌+◌}
use native.Mathlib.Omega.{arith}
use lib.ListN.{get_or}
use Rattle.attribute_map.specs.Data.{changed, steps}
use Rattle.attributes.specs.Lin.{lin_cell, lin_map}
use Rattle.attribute_map.proofs.Steps.{after_none, after_more}
use Rattle.attributes.proofs.lin.attr_lin.Goals as goal

pub loop-i-init : goal.loop-i-init
loop-i-init c = after_none

pub loop-i-preserved : goal.loop-i-preserved
loop-i-preserved c = after_more c.loop-i.invariant c.line-next.ensures

pub returns : goal.returns
unfolding lin_map
returns c =
    let s = c.args in
    c.loop-i.invariant.is ∙ ap (λ n. steps (λ i. changed (lin_cell (get_or s.d.now (2 + i) 0))) n s.map) (omega arith)
