-- What the call tells, as a number.
use mathlib.Core.Path.{◌∙◌, refl}
use Rattle.export_answers.specs.Coded.{value, Fits}
use Rattle.export_answers.proofs.Crossing.{crosses_as, fits-as}
use Rattle.export.proofs.Fitting.{picture-fits}
use Rattle.export.proofs.looking.sporedrift_picture.Goals as goal

pub coded-requires : goal.coded-requires
coded-requires c = fits-as _ Fits _ _ c.picture.ensures.result_value (picture-fits _ _)

pub returns : goal.returns
returns c = record { value = c.coded.ensures ∙ crosses_as _ value _ (λ v. refl) _ _ c.picture.ensures.result_value; out_after = c.picture.ensures.out_after }
