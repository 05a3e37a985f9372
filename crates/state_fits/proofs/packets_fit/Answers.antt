-- Each way out is the definition's.
use Rattle.std.proofs.Common.{arith}
use Rattle.std.proofs.lemmas.Grind.{common_steps}
use Rattle.state_spans.specs.Coming.{packets_fit}
use Rattle.state_fits.proofs.packets_fit.Goals as goal

pub returns-then-received-le7 : goal.returns-then-received-le7
unfolding packets_fit
returns-then-received-le7 c = grind (arith, common_steps)

pub returns-else-received-le7 : goal.returns-else-received-le7
unfolding packets_fit
returns-else-received-le7 c = grind (arith, common_steps)
