-- The six bytes are read where the set stands.
use mathlib.Core.Path.{refl}
use Rattle.attribute_blocks.specs.Blk.{set_at}
use Rattle.attribute_blocks.proofs.BlkSet.at.Goals as goal

pub returns : goal.returns
unfolding set_at
returns c = refl
