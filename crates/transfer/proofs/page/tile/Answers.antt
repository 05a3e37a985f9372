-- Each turn copies the two bytes of one row (`tile_turn`).
use mathlib.Core.Path.{refl}
use Rattle.bits.proofs.Painting.{painted_none}
use Rattle.transfer.proofs.Pages.{tile_turn}
use Rattle.transfer.proofs.page.tile.Goals as goal

pub loop-r-init : goal.loop-r-init
loop-r-init c = painted_none

pub loop-r-preserved : goal.loop-r-preserved
loop-r-preserved c = tile_turn _ _ _ _ _ _ _ c.loop-r.invariant refl refl
