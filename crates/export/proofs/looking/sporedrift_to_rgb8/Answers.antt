-- What the call tells, as a number.
use mathlib.Core.Path.{ap, ◌∙◌}
use Rattle.export_answers.specs.Coded.{value}
use Rattle.colour.specs.declared.Rgb8.{Rgb8}
use Rattle.export.specs.Parts.{rgb_number}
use Rattle.export.proofs.looking.sporedrift_to_rgb8.Goals as goal

pub returns : goal.returns
returns c = c.of_rgb.ensures ∙ ap (λ (x : Rgb8). value (rgb_number x)) c.to_rgb8.ensures
