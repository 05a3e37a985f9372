use Prim.Native.Nat.{◌-◌, ◌≤◌, ◌<◌}
use lib.ListN.{length}
use Rattle.receiver_run.specs.Run.{port_of, Ready}
use Rattle.test_probe.proofs.logs.probe_log.Given as goal

abbrev pub invariant-loop-at : goal.invariant-loop-at
invariant-loop-at l =
    ((l.at ≤ length l.writes) × ((l.total < 4294967296) × (length l.writes < 18446744073709551616))) × Ready (port_of l.rx l.lines l.store) l.lines.index 3

abbrev pub decreases-loop-at : goal.decreases-loop-at
decreases-loop-at l = length l.writes - l.at
