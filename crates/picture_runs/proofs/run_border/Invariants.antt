use Prim.Native.Nat.{◌+◌}
use lib.ListN.{get_or}
use Rattle.bits.specs.Paint.{Painted}
use Rattle.picture_lanes.specs.Lanes.{lane}
use Rattle.picture_runs.proofs.run_border.Given as goal

abbrev pub invariant-loop-j : goal.invariant-loop-j
invariant-loop-j l = Painted l.out l.initial.out l.at l.j (λ i. get_or l.border (l.base + lane l.l i) 0)
