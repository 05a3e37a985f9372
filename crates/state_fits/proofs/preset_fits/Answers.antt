-- Each way out is the definition's.
use Rattle.std.proofs.Common.{arith}
use Rattle.std.proofs.lemmas.Grind.{common_steps}
use Rattle.state_spans.specs.Coming.{preset_fits}
use Rattle.state_fits.proofs.preset_fits.Goals as goal

pub returns-then-in_force-ne1 : goal.returns-then-in_force-ne1
unfolding preset_fits
returns-then-in_force-ne1 c = grind (arith, common_steps)

pub returns-else-in_force-ne1 : goal.returns-else-in_force-ne1
unfolding preset_fits
returns-else-in_force-ne1 c = grind (arith, common_steps)
