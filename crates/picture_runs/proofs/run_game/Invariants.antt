use Prim.Native.Nat.{◌+◌}
use lib.ListN.{get_or}
use Rattle.bits.specs.Paint.{Painted}
use Rattle.picture_runs.specs.Runs.{lane_shade}
use Rattle.picture_runs.proofs.run_game.Given as goal

abbrev pub invariant-loop-j : goal.invariant-loop-j
invariant-loop-j l = Painted l.out l.initial.out l.at l.j (λ i. get_or l.game (l.n + lane_shade l.s i) 0)
