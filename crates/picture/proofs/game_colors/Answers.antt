-- Each turn writes the next colour.
use native.Mathlib.Omega.{arith}
use Rattle.bits.proofs.Painting.{painted_none, painted_turn, painted-count, painted_all}
use Rattle.picture.specs.Tables.{game_color}
use Rattle.picture.proofs.game_colors.Goals as goal

pub loop-k-init : goal.loop-k-init
loop-k-init c = painted_none

pub loop-k-preserved : goal.loop-k-preserved
unfolding game_color
loop-k-preserved c = painted_turn c.loop-k.invariant _ _ (omega arith) c.masked.ensures

pub returns : goal.returns
returns c = painted_all (painted-count c.loop-k.invariant 16 (omega arith)) (omega arith)
