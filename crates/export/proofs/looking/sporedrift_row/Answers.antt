-- What the call tells, as a number.
use mathlib.Core.Path.{◌∙◌, refl}
use Rattle.export_answers.specs.Coded.{value, Fits}
use Rattle.export_answers.proofs.Crossing.{crosses_as, fits-as}
use Rattle.export.proofs.Fitting.{row_fits}
use Rattle.export.proofs.looking.sporedrift_row.Goals as goal

pub coded-requires : goal.coded-requires
coded-requires c = fits-as _ Fits _ _ c.row.ensures.result_value (row_fits _ _ _)

pub returns : goal.returns
returns c = record { value = c.coded.ensures ∙ crosses_as _ value _ (λ v. refl) _ _ c.row.ensures.result_value; out_after = c.row.ensures.out_after }
