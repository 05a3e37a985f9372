-- The number of the eight bytes is that of the part.
use mathlib.Core.Path.{◌∙◌}
use Rattle.block_packet.proofs.Halves.{value_eight}
use Rattle.block_packet.proofs.half.Goals as goal

pub returns : goal.returns
returns c = let s = c in c.eight.ensures ∙ value_eight s.args.bytes.now s.args.at s.requires
