-- `BorderMapEntry::flip_y` meets its contract: the mask leaves bit 15 alone.
use Rattle.bits.proofs.Masks.{flag}
use Rattle.colour.specs.Entry.{flip_y}
use Rattle.colour.proofs.BorderMapEntry.flip_y.Goals as goal

pub returns : goal.returns
unfolding flip_y
returns c = flag c.args.self.0 15
