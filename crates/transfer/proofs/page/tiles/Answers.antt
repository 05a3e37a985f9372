-- Each turn adds a tile after those that are there (`tiles_turn`).
use Rattle.bits.proofs.Painting.{painted_none}
use Rattle.transfer.proofs.Pages.{tiles_turn}
use Rattle.transfer.proofs.page.tiles.Goals as goal

pub loop-t-init : goal.loop-t-init
loop-t-init c = painted_none

pub loop-t-preserved : goal.loop-t-preserved
loop-t-preserved c = tiles_turn _ _ _ _ _ c.loop-t.invariant c.tile.ensures
