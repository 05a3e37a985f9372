-- What the call tells, as a number.
use mathlib.Core.Path.{◌∙◌}
use Rattle.export_answers.specs.Coded.{optional}
use Rattle.export_answers.proofs.Crossing.{crosses_as, landed-optional}
use Rattle.export.proofs.changing.sporedrift_update_screen.Goals as goal

pub returns : goal.returns
returns c = record { value = c.coded.ensures ∙ crosses_as _ optional _ landed-optional _ _ c.update_screen.ensures.result_value; block_after = c.update_screen.ensures.block_after }
