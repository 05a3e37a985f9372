-- Each way out is the definition's.
use Rattle.std.proofs.Common.{arith}
use Rattle.std.proofs.lemmas.Grind.{common_steps}
use Rattle.state_spans.specs.Coming.{captures_fit}
use Rattle.state_fits.proofs.captures_fit.Goals as goal

pub returns-then-has : goal.returns-then-has
unfolding captures_fit
returns-then-has c = grind (arith, common_steps)

pub returns-else-has : goal.returns-else-has
unfolding captures_fit
returns-else-has c = grind (arith, common_steps)
