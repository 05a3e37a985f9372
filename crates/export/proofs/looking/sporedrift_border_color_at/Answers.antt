-- What the call tells, as a number.
use mathlib.Core.Path.{◌∙◌}
use Rattle.export_answers.specs.Coded.{optional}
use Rattle.export_answers.proofs.Crossing.{crosses_as, colour-optional}
use Rattle.export.proofs.looking.sporedrift_border_color_at.Goals as goal

pub returns : goal.returns
returns c = c.coded.ensures ∙ crosses_as _ optional _ colour-optional _ _ c.border_color_at.ensures
