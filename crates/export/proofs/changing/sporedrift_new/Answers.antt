-- What the call tells, as a number.
use mathlib.Core.Path.{◌∙◌}
use Rattle.export_answers.proofs.Crossing.{unit-crosses}
use Rattle.export.proofs.changing.sporedrift_new.Goals as goal

pub returns : goal.returns
returns c = record { value = c.coded.ensures ∙ unit-crosses _ ∙ c.new.ensures.value; block_after = c.new.ensures.block_after }
