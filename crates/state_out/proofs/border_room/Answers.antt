-- Each way out is the definition's.
use Rattle.std.proofs.Common.{arith}
use Rattle.std.proofs.lemmas.Grind.{common_steps}
use Rattle.state_spans.specs.Going.{border_room}
use Rattle.state_out.proofs.border_room.Goals as goal

pub returns-then-room-ge-BORDER_MAP_BYTES : goal.returns-then-room-ge-BORDER_MAP_BYTES
unfolding border_room
returns-then-room-ge-BORDER_MAP_BYTES c = grind (arith, common_steps)

pub returns-else-room-ge-BORDER_MAP_BYTES : goal.returns-else-room-ge-BORDER_MAP_BYTES
unfolding border_room
returns-else-room-ge-BORDER_MAP_BYTES c = grind (arith, common_steps)
