-- Whatever the map held, every cell is told by the command.
use Rattle.std.proofs.Common.{◌∙◌}
use Rattle.commands.specs.Maps.{attr_div}
use Rattle.commands.proofs.maps.attr_div.Goals as goal

pub returns : goal.returns
unfolding attr_div
returns c = c.pack.ensures ∙ rw c.attr_div-m.ensures
