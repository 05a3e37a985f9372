-- What the call tells, as a number.
use mathlib.Core.Path.{◌∙◌, refl}
use Rattle.export_answers.specs.Coded.{value}
use Rattle.export_answers.proofs.Crossing.{crosses_as}
use Rattle.export.proofs.looking.sporedrift_map_entry.Goals as goal

pub returns : goal.returns
returns c = c.coded.ensures ∙ crosses_as _ value _ (λ v. refl) _ _ c.map_entry.ensures
