-- Each turn adds a row beneath those that are there (`rows_turn`), and nothing comes beneath the last (`rows_are`).
use native.Mathlib.Omega.{arith}
use Rattle.bits.proofs.Painting.{painted_none, painted-count}
use Rattle.pages.specs.Passes.{reached}
use Rattle.pages.proofs.Passes.{rows_turn, rows_are}
use Rattle.pages.proofs.lay.Goals as goal

pub loop-y-init : goal.loop-y-init
loop-y-init c = painted_none

pub loop-y-preserved : goal.loop-y-preserved
loop-y-preserved c =
    let l = c.loop-y in
    rows_turn _ _ _ _ _ l.invariant c.lay_row.ensures

pub returns : goal.returns
returns c = rows_are _ _ _ _ (omega arith) (omega arith) (painted-count c.loop-y.invariant reached (omega arith)) c.blank.ensures
