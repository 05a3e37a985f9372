-- What the call tells, as a number.
use mathlib.Core.Path.{refl, ◌∙◌}
use Rattle.export_answers.specs.Coded.{value, Fits}
use Rattle.export_answers.proofs.Crossing.{crosses_as, fits-as}
use Rattle.export.proofs.Fitting.{to-fits}
use Rattle.export.proofs.exchanging.sporedrift_to_spans.Goals as goal

pub coded-requires : goal.coded-requires
coded-requires c = fits-as (λ n. n) Fits c.to_state.result _ c.to_state.ensures.result_value (to-fits _ _)

pub returns-clause-value : goal.returns-clause-value
returns-clause-value c = c.coded.ensures ∙ crosses_as (λ n. n) value value (λ v. refl) c.to_state.result _ c.to_state.ensures.result_value
