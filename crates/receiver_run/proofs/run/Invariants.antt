use mathlib.Core.Path.{◌≡◌}
use lib.ListN.{drop}
use Rattle.receiver_run.specs.Run.{runs, port_of, Ready}
use Rattle.receiver_run.proofs.Turns.{here}
use Rattle.receiver_run.proofs.run.Given as goal

abbrev pub invariant-loop-i : goal.invariant-loop-i
invariant-loop-i l =
    Ready (port_of l.rx (here l.p15 l.both l.index) l.store) l.index l.mask
    × (runs l.mask l.i l.index (port_of l.rx (here l.p15 l.both l.index) l.store) (drop l.i l.writes) ≡ runs l.mask 0 l.initial.index (port_of l.initial.rx (here l.initial.p15 l.initial.both l.initial.index) l.initial.store) l.writes)
