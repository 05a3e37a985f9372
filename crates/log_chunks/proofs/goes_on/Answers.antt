-- By the three tests.
use mathlib.Core.Path.{◌≡◌}
use Rattle.log_chunks.proofs.Coded.{unstopped, joined-yes, joined_no, goes-yes, goes_no}
use Rattle.log_chunks.proofs.goes_on.Goals as goal
use Rattle.log_chunks.proofs.goes_on.Goals.{then-not-so_far, else-not-so_far}

pub returns-then-room-so_far-ge-STEP_ROOM : goal.returns-then-room-so_far-ge-STEP_ROOM
returns-then-room-so_far-ge-STEP_ROOM c =
    let f = c.args.so_far in
    let both : c.if-not-so_far.value ≡ unstopped f.refused f.size f.reading f.at c.args.size c.args.room =
    elim c.if-not-so_far.branch [
      | then-not-so_far w ↦ joined-yes f.refused f.size f.reading f.at c.args.size c.args.room _ c.requires w.if-not-so_far.true w.value-is
      | else-not-so_far w ↦ joined_no f.refused f.size f.reading f.at c.args.size c.args.room _ w.if-not-so_far.false w.value-is
    ] in
    goes-yes f.refused f.size f.reading f.at c.args.size c.args.room _ _ both c.if-room-so_far-ge-STEP_ROOM.true c.is_left.ensures

pub returns-else-room-so_far-ge-STEP_ROOM : goal.returns-else-room-so_far-ge-STEP_ROOM
returns-else-room-so_far-ge-STEP_ROOM c =
    let f = c.args.so_far in
    let both : c.if-not-so_far.value ≡ unstopped f.refused f.size f.reading f.at c.args.size c.args.room =
    elim c.if-not-so_far.branch [
      | then-not-so_far w ↦ joined-yes f.refused f.size f.reading f.at c.args.size c.args.room _ c.requires w.if-not-so_far.true w.value-is
      | else-not-so_far w ↦ joined_no f.refused f.size f.reading f.at c.args.size c.args.room _ w.if-not-so_far.false w.value-is
    ] in
    goes_no f.refused f.size f.reading f.at c.args.size c.args.room _ both c.if-room-so_far-ge-STEP_ROOM.false
