use Prim.Native.Nat.{◌+◌, ◌-◌, ◌≤◌, ◌<◌}
use lib.ListN.{length}
use Rattle.receiver.specs.Rises.{rises}
use Rattle.receiver_polling.specs.Passing.{Passed}
use Rattle.receiver_polling.proofs.by_eight.Given as goal

abbrev pub invariant-loop-i : goal.invariant-loop-i
invariant-loop-i l =
    ((l.start.at + l.n ≤ l.i) × (length l.writes < 18446744073709551616))
    × ((few : rises l.n l.start.lines.index l.mask < 255)
    × Passed l.mask l.start.at l.start.rx l.start.lines l.writes
    (record {
      rx = l.start.rx;
      lines = record { p15 = l.p15; both = l.both; index = rises l.n l.start.lines.index l.mask };
      at = l.i;
      sound = l.start.sound;
      few = few;
    }))

abbrev pub decreases-loop-i : goal.decreases-loop-i
decreases-loop-i l = length l.writes - l.i
