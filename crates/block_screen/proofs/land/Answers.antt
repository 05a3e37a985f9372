-- Nothing leaves the block as it is, and a page goes to its part.
use mathlib.Core.Path.{◌∙◌}
use Rattle.block_screen.proofs.Landings.{nothing-landed}
use Rattle.block_screen.proofs.land.Goals as goal

pub returns-in_default : goal.returns-in_default
returns-in_default c = nothing-landed _ c.requires.0 c.args.screen.now ∙ rw c.in_default.is

pub returns-in-Some : goal.returns-in-Some
returns-in-Some c = c.land_page.ensures ∙ rw c.in-Some.is
