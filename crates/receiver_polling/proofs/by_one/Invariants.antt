use Prim.Native.Nat.{◌<◌}
use Rattle.receiver_polling.specs.Passing.{Passed}
use Rattle.receiver_polling.proofs.by_one.Given as goal

abbrev pub invariant-loop-i : goal.invariant-loop-i
invariant-loop-i l =
    (few : l.here.index < 255)
    × Passed l.mask l.start.at l.start.rx l.start.lines l.writes
    (record { rx = l.start.rx; lines = l.here; at = l.i; sound = l.start.sound; few = few })
