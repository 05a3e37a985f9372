-- Each way out is the definition's.
use Rattle.std.proofs.Common.{arith}
use Rattle.std.proofs.lemmas.Grind.{common_steps}
use Rattle.state_spans.specs.Going.{roomy}
use Rattle.state_out.proofs.roomy.Goals as goal

pub returns-then-captures_room : goal.returns-then-captures_room
unfolding roomy
returns-then-captures_room c = grind (arith, common_steps)

pub returns-else-captures_room : goal.returns-else-captures_room
unfolding roomy
returns-else-captures_room c = grind (arith, common_steps)
