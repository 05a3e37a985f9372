-- Each way out is the definition's.
use Rattle.std.proofs.Common.{arith}
use Rattle.std.proofs.lemmas.Grind.{common_steps}
use Rattle.state_spans.specs.Coming.{front_fits}
use Rattle.state_fits.proofs.front_fits.Goals as goal

pub returns-then-packets_fit : goal.returns-then-packets_fit
unfolding front_fits
returns-then-packets_fit c = grind (arith, common_steps)

pub returns-else-packets_fit : goal.returns-else-packets_fit
unfolding front_fits
returns-else-packets_fit c = grind (arith, common_steps)
