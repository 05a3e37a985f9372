-- Each way out is the definition's.
use Rattle.std.proofs.Common.{arith}
use Rattle.std.proofs.lemmas.Grind.{common_steps}
use Rattle.state_spans.specs.Going.{captures_room}
use Rattle.state_out.proofs.captures_room.Goals as goal

pub returns-then-room : goal.returns-then-room
unfolding captures_room
returns-then-room c = grind (arith, common_steps)

pub returns-else-room : goal.returns-else-room
unfolding captures_room
returns-else-room c = grind (arith, common_steps)
