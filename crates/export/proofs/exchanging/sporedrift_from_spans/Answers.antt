-- What the call tells, as a number.
use mathlib.Core.Path.{ap, ◌∙◌}
use Rattle.export_answers.proofs.Crossing.{unit-crosses}
use Rattle.state_spans.specs.Coming.{from_answer}
use Rattle.export.proofs.exchanging.sporedrift_from_spans.Goals as goal

pub returns-clause-value : goal.returns-clause-value
returns-clause-value c = c.coded.ensures ∙ unit-crosses _ ∙ c.from_state.ensures.result_value ∙ ap (from_answer c.args.block.now) c.lent-spans.ensures
