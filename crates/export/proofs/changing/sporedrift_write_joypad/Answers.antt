-- What the call tells, as a number.
use mathlib.Core.Path.{◌∙◌}
use Rattle.export_answers.specs.Coded.{optional}
use Rattle.export_answers.proofs.Crossing.{crosses_as, packets-optional}
use Rattle.export.proofs.changing.sporedrift_write_joypad.Goals as goal

pub returns : goal.returns
returns c = record { value = c.coded.ensures ∙ crosses_as _ optional _ packets-optional _ _ c.write_joypad.ensures.result_value; block_after = c.write_joypad.ensures.block_after; command_after = c.write_joypad.ensures.command_after }
