-- Unpacked, changed, packed: each call's answer is the next one's question.
use Rattle.std.proofs.Common.{◌∙◌}
use Rattle.commands.specs.Maps.{attr_lin}
use Rattle.commands.proofs.maps.attr_lin.Goals as goal

pub returns : goal.returns
unfolding attr_lin
returns c = c.pack.ensures ∙ rw (c.attr_lin-m.ensures, c.unpack.ensures)
