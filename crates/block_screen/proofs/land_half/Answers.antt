-- The half that comes back is the one part that changes.
use mathlib.Core.Path.{◌∙◌}
use Rattle.block_screen.proofs.Landings.{lower-landed, upper-landed}
use Rattle.block_screen.proofs.land_half.Goals as goal

pub returns-then-upper_half : goal.returns-then-upper_half
returns-then-upper_half c = upper-landed _ c.requires.0 _ _ c.land_tiles.ensures ∙ rw c.if-upper_half.true

pub returns-else-upper_half : goal.returns-else-upper_half
returns-else-upper_half c = lower-landed _ c.requires.0 _ _ c.land_tiles-else-upper_half.ensures ∙ rw c.if-upper_half.false
