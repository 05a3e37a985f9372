-- `unit::write_joypad` meets its contract: the refusals in their order, and else the worker, whose answer tells the command in the buffer.
use mathlib.Core.Path.{ap, ◌∙◌}
use Rattle.layout.specs.Block.{load}
use Rattle.rules.specs.Write.{answer}
use Rattle.unit.specs.Answers.{packets_of}
use Rattle.unit.specs.Calls.{write_answer, write_block, write_command}
use Rattle.unit.proofs.Calling.{room-passed, room-passes, room-given}
use Rattle.unit.proofs.Writes.{packets-some}
use Rattle.bits.proofs.Named.{as-result_value-block_after-command_after}
use Rattle.unit.proofs.write_joypad.Goals as goal

pub returns-in_err-check_with_room : goal.returns-in_err-check_with_room
unfolding write_answer write_block write_command
returns-in_err-check_with_room c =
    as-result_value-block_after-command_after (room-passed c.args.block.now c.args.command.now _ _ _ _ c.from_residual.result c.in_err-check_with_room.field-0.0
    c.in_err-check_with_room.ensures c.from_residual.ensures.1)

pub write-requires : goal.write-requires
write-requires c = room-passes _ _ c.in_ok-check_with_room.ensures

pub returns : goal.returns
unfolding write_answer write_block write_command
returns c =
    let start = c.args in
    let w = c.write in
    let ok = room-passes start.block.now start.command.now c.in_ok-check_with_room.ensures in
    as-result_value-block_after-command_after (room-given start.block.now start.command.now _ _ _ _ _ _ ok.0 ok.1
    (ap packets_of w.ensures.value ∙ packets-some (answer (load start.block.now) start.value))
    w.ensures.block_after w.ensures.command_after)
