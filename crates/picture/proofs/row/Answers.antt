-- Each turn adds a run after those that are there (`row_turn`).
use mathlib.Core.Path.{refl}
use Rattle.bits.proofs.Painting.{painted_none}
use Rattle.picture_runs.specs.Drawing.{source_of}
use Rattle.picture.proofs.Whole.{row_turn}
use Rattle.picture.proofs.row.Goals as goal

pub loop-c-init : goal.loop-c-init
loop-c-init c = painted_none

pub loop-c-preserved : goal.loop-c-preserved
loop-c-preserved c = row_turn (source_of c.args.parts.now c.args.tables.now) c.args.y _ _ _ c.loop-c.c c.args.at _ refl c.loop-c.invariant c.run.ensures
