-- Each way out is the definition's.
use Rattle.std.proofs.Common.{arith}
use Rattle.std.proofs.lemmas.Grind.{common_steps}
use Rattle.state_spans.specs.Coming.{fits}
use Rattle.state_fits.proofs.fits.Goals as goal

pub returns-then-captures_fit : goal.returns-then-captures_fit
unfolding fits
returns-then-captures_fit c = grind (arith, common_steps)

pub returns-else-captures_fit : goal.returns-else-captures_fit
unfolding fits
returns-else-captures_fit c = grind (arith, common_steps)
