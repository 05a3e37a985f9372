-- What is asked, one after the other.
use mathlib.Core.Path.{ap₂, ◌∙◌}
use Rattle.broken.specs.Broken.{first, lower, lowest}
use Rattle.block_broken_v3.proofs.first.Goals as goal

pub returns : goal.returns
unfolding first lowest
returns c = c.lower.ensures ∙ ap₂ lower c.zero_at.ensures c.set_in.ensures
