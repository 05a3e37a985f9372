use Prim.Native.Nat.{◌+◌}
use lib.ListN.{get_or}
use Rattle.bits.specs.Paint.{Painted}
use Rattle.picture_runs.specs.Runs.{lane_shade, run_pixel}
use Rattle.picture_lanes.specs.Lanes.{lane}
use Rattle.picture_runs.proofs.run_both.Given as goal

abbrev pub invariant-loop-j : goal.invariant-loop-j
invariant-loop-j l = Painted l.out l.initial.out l.at l.j (λ i. run_pixel (lane l.l i) l.border l.base (get_or l.game (l.n + lane_shade l.s i) 0))
