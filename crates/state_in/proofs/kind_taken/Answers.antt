-- Each arm is the definition's.
use Rattle.std.proofs.Common.{arith}
use Rattle.std.proofs.lemmas.Grind.{common_steps}
use Rattle.state_spans.specs.Coming.{kind_taken}
use Rattle.state_in.proofs.kind_taken.Goals as goal

pub returns-then-kind-le4 : goal.returns-then-kind-le4
unfolding kind_taken
returns-then-kind-le4 c = grind (arith, common_steps)

pub returns-else-countdown-eq0 : goal.returns-else-countdown-eq0
unfolding kind_taken
returns-else-countdown-eq0 c = grind (arith, common_steps)
