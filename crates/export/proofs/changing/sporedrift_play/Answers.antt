-- What the call tells, as a number.
use mathlib.Core.Path.{◌∙◌, refl}
use Rattle.export_answers.specs.Coded.{run, RunFits}
use Rattle.export_answers.proofs.Crossing.{crosses_as, fits-as}
use Rattle.export.proofs.Fitting.{play-fits}
use Rattle.export.proofs.changing.sporedrift_play.Goals as goal

pub coded-requires : goal.coded-requires
coded-requires c = fits-as _ RunFits _ _ c.play.ensures.result_value (play-fits _ _ _)

pub returns : goal.returns
returns c = record { value = c.coded.ensures ∙ crosses_as _ run _ (λ v. refl) _ _ c.play.ensures.result_value; block_after = c.play.ensures.block_after; command_after = c.play.ensures.command_after }
