-- `BorderMapEntry::tile` meets its contract: the mask of ten bits is the remainder.
use lib.Bits.{and_mask}
use Rattle.colour.specs.Entry.{tile_of}
use Rattle.colour.proofs.BorderMapEntry.tile.Goals as goal

pub returns : goal.returns
unfolding tile_of
returns c = and_mask c.args.self.0 10
