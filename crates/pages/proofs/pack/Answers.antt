-- Each turn packs the two bytes of one place (`pack_turn`).
use native.Mathlib.Omega.{arith}
use Rattle.bits.proofs.Painting.{painted_none, painted-count}
use Rattle.pages.specs.Passes.{reached}
use Rattle.pages.proofs.Passes.{pack_turn}
use Rattle.pages.proofs.pack.Goals as goal

pub loop-k-init : goal.loop-k-init
loop-k-init c = painted_none

pub loop-k-preserved : goal.loop-k-preserved
loop-k-preserved c =
    let l = c.loop-k in
    pack_turn _ _ _ _ _ l.invariant c.left_four.ensures c.right_four.ensures

pub returns : goal.returns
returns c = painted-count c.loop-k.invariant reached (omega arith)
