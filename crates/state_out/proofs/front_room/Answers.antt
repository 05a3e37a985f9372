-- Each way out is the definition's.
use Rattle.std.proofs.Common.{arith}
use Rattle.std.proofs.lemmas.Grind.{common_steps}
use Rattle.state_spans.specs.Going.{front_room}
use Rattle.state_out.proofs.front_room.Goals as goal

pub returns-then-room-ge-STORE_BYTES : goal.returns-then-room-ge-STORE_BYTES
unfolding front_room
returns-then-room-ge-STORE_BYTES c = grind (arith, common_steps)

pub returns-else-room-ge-STORE_BYTES : goal.returns-else-room-ge-STORE_BYTES
unfolding front_room
returns-else-room-ge-STORE_BYTES c = grind (arith, common_steps)
