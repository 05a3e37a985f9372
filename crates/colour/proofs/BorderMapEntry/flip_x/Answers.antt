-- `BorderMapEntry::flip_x` meets its contract: the mask leaves bit 14 alone.
use Rattle.bits.proofs.Masks.{flag}
use Rattle.colour.specs.Entry.{flip_x}
use Rattle.colour.proofs.BorderMapEntry.flip_x.Goals as goal

pub returns : goal.returns
unfolding flip_x
returns c = flag c.args.self.0 14
