-- Each turn lays the two plane bytes of one tile's row (`four_turn`).
use mathlib.Core.Path.{refl}
use native.Mathlib.Omega.{arith}
use Rattle.bits.proofs.Painting.{painted_none, painted-count}
use Rattle.pages.proofs.Passes.{four_turn}
use Rattle.pages.proofs.lay_four.Goals as goal

pub loop-c-init : goal.loop-c-init
loop-c-init c = painted_none

pub loop-c-preserved : goal.loop-c-preserved
loop-c-preserved c =
    let l = c.loop-c in
    four_turn _ _ _ _ _ _ _ _ l.invariant refl refl

pub returns : goal.returns
returns c = painted-count c.loop-c.invariant 8 (omega arith)
