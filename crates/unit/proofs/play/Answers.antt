-- `unit::play` meets its contract: the refusals in their order, and else what was played of the writes that one call takes.
use mathlib.Core.Path.{refl}
use Rattle.unit.specs.Plays.{play_most, play_answer, play_block, play_command}
use Rattle.unit.proofs.Calling.{room-passed, room-passes}
use Rattle.unit.proofs.Playing.{most-taken, play-given}
use Rattle.bits.proofs.Named.{as-result_value-block_after-command_after}
use Rattle.unit.proofs.play.Goals as goal

pub returns-in_err-check_with_room : goal.returns-in_err-check_with_room
unfolding play_answer play_block play_command
returns-in_err-check_with_room c =
    as-result_value-block_after-command_after (room-passed c.args.block.now c.args.command.now _ _ _ _ c.from_residual.result c.in_err-check_with_room.field-0.0
    c.in_err-check_with_room.ensures c.from_residual.ensures.1)

pub play-p-requires : goal.play-p-requires
play-p-requires c = room-passes _ _ c.in_ok-check_with_room.ensures

pub returns : goal.returns
unfolding play_most
returns c =
    let start = c.args in
    let p = c.play-p.ensures in
    let ok = room-passes start.block.now start.command.now c.in_ok-check_with_room.ensures in
    as-result_value-block_after-command_after (play-given start.block.now start.writes.now _ start.command.now _ _ _ _ _ ok.0 ok.1
    (most-taken start.writes.now _ play_most c.min-most.ensures)
    refl p.at_value p.packets_value p.block_after p.command_after)
