-- Each turn writes the next entry.
use mathlib.Core.Path.{refl}
use Rattle.bits.proofs.Painting.{painted_none, painted_turn}
use Rattle.picture_lanes.proofs.fill_half.Goals as goal

pub loop-k-init : goal.loop-k-init
loop-k-init g c = painted_none

pub loop-k-preserved : goal.loop-k-preserved
loop-k-preserved g c = painted_turn c.loop-k.invariant _ _ refl c.spread.ensures
