-- What is asked, one after the other.
use mathlib.Core.Path.{ap₂, ◌∙◌}
use Rattle.broken.specs.Broken.{asks4, lower, lowest}
use Rattle.broken.proofs.Lowest.{lower_none}
use Rattle.block_broken.proofs.at_v4.Goals as goal

pub returns : goal.returns
unfolding asks4 lowest
returns c = c.lower.ensures ∙ ap₂ lower c.at_most.ensures (c.kind.ensures ∙ lower_none _)
