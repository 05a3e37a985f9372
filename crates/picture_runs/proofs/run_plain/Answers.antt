-- Each turn writes the next pixel.
use mathlib.Core.Path.{refl}
use Rattle.bits.proofs.Painting.{painted_none, painted_turn}
use Rattle.picture_runs.proofs.run_plain.Goals as goal

pub loop-j-init : goal.loop-j-init
loop-j-init c = painted_none

pub loop-j-preserved : goal.loop-j-preserved
loop-j-preserved c =
    let l = c.loop-j in
    painted_turn l.invariant _ _ refl refl
