-- What the call tells, as a number.
use mathlib.Core.Path.{◌∙◌, refl}
use Rattle.pulses.specs.Answer.{encoded_answer}
use Rattle.export_answers.specs.Coded.{value, Fits}
use Rattle.export_answers.proofs.Crossing.{crosses_as, fits-as}
use Rattle.export.proofs.Fitting.{encoding-fits}
use Rattle.export.proofs.sending.sporedrift_encode.Goals as goal

pub coded-requires : goal.coded-requires
unfolding encoded_answer
coded-requires c = fits-as _ Fits _ _ c.encode.ensures.answer (encoding-fits _ _)

pub returns : goal.returns
unfolding encoded_answer
returns c = record { value = c.coded.ensures ∙ crosses_as _ value _ (λ v. refl) _ _ c.encode.ensures.answer; out_after = c.encode.ensures.output }
