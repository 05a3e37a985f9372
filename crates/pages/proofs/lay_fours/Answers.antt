-- Each turn adds four tiles to those that are there (`fours_turn`).
use native.Mathlib.Omega.{arith}
use Rattle.bits.proofs.Painting.{painted_none, painted-count}
use Rattle.pages.proofs.Passes.{fours_turn}
use Rattle.pages.proofs.lay_fours.Goals as goal

pub loop-g-init : goal.loop-g-init
loop-g-init c = painted_none

pub loop-g-preserved : goal.loop-g-preserved
loop-g-preserved c =
    let l = c.loop-g in
    fours_turn _ _ _ _ _ _ l.invariant c.lay_four.ensures

pub returns : goal.returns
returns c = painted-count c.loop-g.invariant _ (omega arith)
