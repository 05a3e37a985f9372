-- What the call tells, as a number.
use mathlib.Core.Path.{◌∙◌, refl}
use Rattle.export_answers.specs.Coded.{value, Fits}
use Rattle.export_answers.proofs.Crossing.{crosses_as, fits-as}
use Rattle.export.proofs.Fitting.{page-screen-fits}
use Rattle.export.proofs.sending.sporedrift_page_screen.Goals as goal

pub coded-requires : goal.coded-requires
coded-requires c = fits-as _ Fits _ _ c.page_screen.ensures.result_value (page-screen-fits _ _)

pub returns : goal.returns
returns c = record { value = c.coded.ensures ∙ crosses_as _ value _ (λ v. refl) _ _ c.page_screen.ensures.result_value; screen_after = c.page_screen.ensures.screen_after }
