use mathlib.Core.Path.{◌≡◌}
use Prim.Native.Nat.{◌-◌, ◌≤◌, ◌<◌}
use lib.ListN.{length, drop}
use Rattle.receiver_run.specs.Run.{runs, port_of, Ready}
use Rattle.receiver_fast.proofs.run_fast.Given as goal

abbrev pub invariant-loop-at : goal.invariant-loop-at
invariant-loop-at l =
    ((l.at ≤ length l.writes) × (length l.writes < 18446744073709551616))
    × (Ready (port_of l.rx l.lines l.store) l.lines.index l.mask
    × (runs l.mask l.at l.lines.index (port_of l.rx l.lines l.store) (drop l.at l.writes) ≡ runs l.mask 0 l.initial.lines.index (port_of l.initial.rx l.initial.lines l.initial.store) l.writes))

abbrev pub decreases-loop-at : goal.decreases-loop-at
decreases-loop-at l = length l.writes - l.at
