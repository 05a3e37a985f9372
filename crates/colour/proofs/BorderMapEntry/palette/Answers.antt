-- `BorderMapEntry::palette` meets its contract: a shift and a mask of three bits are the quotient and the remainder.
use Prim.Native.Nat.{◌/◌}
use lib.Bits.{and_mask}
use Rattle.colour.specs.Entry.{palette_of}
use Rattle.colour.proofs.BorderMapEntry.palette.Goals as goal

pub returns : goal.returns
unfolding palette_of
returns c = and_mask (c.args.self.0 / 1024) 3
