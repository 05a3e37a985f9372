-- Each turn adds a row after those that are there (`rows_turn`).
use Rattle.bits.proofs.Painting.{painted_none}
use Rattle.picture_runs.specs.Drawing.{source_of}
use Rattle.picture.proofs.Whole.{rows_turn}
use Rattle.picture.proofs.picture.Goals as goal

pub loop-y-init : goal.loop-y-init
loop-y-init c = painted_none

pub loop-y-preserved : goal.loop-y-preserved
loop-y-preserved c = rows_turn (source_of c.args.parts.now c.args.tables.now) _ _ _ _ c.loop-y.invariant c.row.ensures
