-- Each turn writes the two plane bytes of one place (`planes_turn`).
use native.Mathlib.Omega.{arith}
use Rattle.bits.proofs.Painting.{painted_none, painted_all, painted-count}
use Rattle.transfer.specs.Passes.{plane_at, planes_of}
use Rattle.transfer.proofs.Pages.{planes_turn}
use Rattle.transfer.proofs.page.planes.Goals as goal

pub loop-k-init : goal.loop-k-init
loop-k-init c = painted_none

pub loop-k-preserved : goal.loop-k-preserved
unfolding plane_at
loop-k-preserved c = planes_turn c.args.screen.now _ _ _ _ _ c.loop-k.invariant c.low_plane.ensures c.high_plane.ensures

pub returns : goal.returns
unfolding planes_of
returns c = painted_all (painted-count c.loop-k.invariant 4160 (omega arith)) (omega arith)
