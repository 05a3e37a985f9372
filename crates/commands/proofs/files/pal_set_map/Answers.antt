-- The flag asks for the file or leaves the map.
use Rattle.std.proofs.Common.{◌∙◌}
use Rattle.bits.proofs.Masks.{bit-set, bit-clear}
use Rattle.commands.specs.Files.{pal_set_map}
use Rattle.commands.proofs.files.pal_set_map.Goals as goal

pub returns-then-flags-ne0 : goal.returns-then-flags-ne0
unfolding pal_set_map
returns-then-flags-ne0 c = c.attr_set_map.ensures ∙ rw (bit-set c.args.flags 7 c.if-flags-ne0.true)

pub returns-else-flags-ne0 : goal.returns-else-flags-ne0
unfolding pal_set_map
returns-else-flags-ne0 c = rw (bit-clear c.args.flags 7 c.if-flags-ne0.false)
