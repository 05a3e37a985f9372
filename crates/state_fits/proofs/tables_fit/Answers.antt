-- Each way out is the definition's.
use Rattle.std.proofs.Common.{arith}
use Rattle.std.proofs.lemmas.Grind.{common_steps}
use Rattle.state_spans.specs.Coming.{tables_fit}
use Rattle.state_fits.proofs.tables_fit.Goals as goal

pub returns-then-has-3 : goal.returns-then-has-3
unfolding tables_fit
returns-then-has-3 c = grind (arith, common_steps)

pub returns-else-has-3 : goal.returns-else-has-3
unfolding tables_fit
returns-else-has-3 c = grind (arith, common_steps)
