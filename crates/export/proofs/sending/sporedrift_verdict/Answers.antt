-- What the call tells, as a number.
use mathlib.Core.Path.{◌∙◌, refl}
use Rattle.pulses.specs.Answer.{verdict_answer}
use Rattle.export_answers.specs.Coded.{truth}
use Rattle.export_answers.proofs.Crossing.{crosses_as}
use Rattle.export.proofs.sending.sporedrift_verdict.Goals as goal

pub returns : goal.returns
unfolding verdict_answer
returns c = c.coded.ensures ∙ crosses_as _ truth _ (λ v. refl) _ _ c.verdict.ensures.answer
