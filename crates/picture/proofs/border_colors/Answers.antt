-- Each turn writes the next colour.
use native.Mathlib.Omega.{arith}
use Rattle.bits.proofs.Painting.{painted_none, painted_turn, painted-count, painted_all}
use Rattle.picture.proofs.border_colors.Goals as goal

pub loop-n-init : goal.loop-n-init
loop-n-init c = painted_none

pub loop-n-preserved : goal.loop-n-preserved
loop-n-preserved c = painted_turn c.loop-n.invariant _ _ (omega arith) c.border_color.ensures

pub returns : goal.returns
returns c = painted_all (painted-count c.loop-n.invariant 48 (omega arith)) (omega arith)
