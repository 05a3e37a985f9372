-- What the call tells, as a number.
use mathlib.Core.Path.{◌∙◌}
use Rattle.export_answers.proofs.Crossing.{unit-crosses}
use Rattle.export.proofs.changing.sporedrift_check.Goals as goal

pub returns : goal.returns
returns c = c.coded.ensures ∙ unit-crosses _ ∙ c.check.ensures
