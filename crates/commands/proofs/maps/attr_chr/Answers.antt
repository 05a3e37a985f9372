-- Unpacked, changed, packed: each call's answer is the next one's question.
use Rattle.std.proofs.Common.{◌∙◌}
use Rattle.commands.specs.Maps.{attr_chr}
use Rattle.commands.proofs.maps.attr_chr.Goals as goal

pub returns : goal.returns
unfolding attr_chr
returns c = c.pack.ensures ∙ rw (c.attr_chr-m.ensures, c.unpack.ensures)
