-- What is asked, one after the other.
use mathlib.Core.Path.{ap₂, ◌∙◌}
use Rattle.broken.specs.Broken.{coming, lower, lowest}
use Rattle.block_broken_v3.proofs.coming.Goals as goal

pub returns : goal.returns
unfolding coming lowest
returns c = c.lower.ensures ∙ ap₂ lower c.at_most.ensures c.bits_past.ensures
