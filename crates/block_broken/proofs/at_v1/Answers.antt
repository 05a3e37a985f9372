-- What is asked, one after the other.
use mathlib.Core.Path.{ap₂, ◌∙◌}
use Rattle.broken.specs.Broken.{asks1, lower, lowest}
use Rattle.broken.proofs.Lowest.{lower_none}
use Rattle.block_broken.proofs.at_v1.Goals as goal

pub returns : goal.returns
unfolding asks1 lowest
returns c = c.lower-2.ensures ∙ ap₂ lower c.at_most.ensures (c.lower.ensures ∙ ap₂ lower c.unless.ensures (c.at_most-pads.ensures ∙ lower_none _))
