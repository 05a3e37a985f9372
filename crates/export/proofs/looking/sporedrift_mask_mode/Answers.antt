-- What the call tells, as a number.
use mathlib.Core.Path.{◌∙◌, refl}
use Rattle.export_answers.specs.Coded.{value, Fits}
use Rattle.export_answers.proofs.Crossing.{crosses_as, fits-as}
use Rattle.export.proofs.Fitting.{mode-fits}
use Rattle.export.proofs.looking.sporedrift_mask_mode.Goals as goal

pub coded-requires : goal.coded-requires
coded-requires c = fits-as _ Fits _ _ c.mask_mode.ensures (mode-fits _)

pub returns : goal.returns
returns c = c.coded.ensures ∙ crosses_as _ value _ (λ v. refl) _ _ c.mask_mode.ensures
