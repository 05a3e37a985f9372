-- Each way out is the definition's.
use Rattle.std.proofs.Common.{arith}
use Rattle.std.proofs.lemmas.Grind.{common_steps}
use Rattle.state_spans.specs.Going.{tables_room}
use Rattle.state_out.proofs.tables_room.Goals as goal

pub returns-then-room-ge-SYSTEM_BYTES : goal.returns-then-room-ge-SYSTEM_BYTES
unfolding tables_room
returns-then-room-ge-SYSTEM_BYTES c = grind (arith, common_steps)

pub returns-else-room-ge-SYSTEM_BYTES : goal.returns-else-room-ge-SYSTEM_BYTES
unfolding tables_room
returns-else-room-ge-SYSTEM_BYTES c = grind (arith, common_steps)
