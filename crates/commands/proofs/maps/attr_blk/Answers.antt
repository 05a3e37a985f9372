-- Unpacked, changed, packed: each call's answer is the next one's question.
use Rattle.std.proofs.Common.{◌∙◌}
use Rattle.commands.specs.Maps.{attr_blk}
use Rattle.commands.proofs.maps.attr_blk.Goals as goal

pub returns : goal.returns
unfolding attr_blk
returns c = c.pack.ensures ∙ rw (c.attr_blk-m.ensures, c.unpack.ensures)
