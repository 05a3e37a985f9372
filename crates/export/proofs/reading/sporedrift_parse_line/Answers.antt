-- What the call tells, as a number.
use mathlib.Core.Path.{◌∙◌, refl}
use Rattle.export_answers.specs.Coded.{content, ContentFits}
use Rattle.export_answers.proofs.Crossing.{crosses_as, fits-as, line-content}
use Rattle.export.proofs.Fitting.{line-fits}
use Rattle.export.proofs.reading.sporedrift_parse_line.Goals as goal

pub coded-requires : goal.coded-requires
coded-requires c = fits-as _ ContentFits _ _ (line-content _ ∙ c.parse.ensures.result_value) (line-fits _ _)

pub returns : goal.returns
returns c = record { value = c.coded.ensures ∙ crosses_as _ content _ (λ v. refl) _ _ (line-content _ ∙ c.parse.ensures.result_value); bytes_after = c.parse.ensures.bytes_after }
