use Prim.Native.Nat.{◌-◌}
use Rattle.receiver_gather.proofs.Gathers.{Gathering}
use Rattle.receiver_gather.proofs.gather.Given as goal

abbrev pub invariant-loop-count : goal.invariant-loop-count
invariant-loop-count l = Gathering l.writes l.from l.word l.count l.ones l.i

abbrev pub decreases-loop-count : goal.decreases-loop-count
decreases-loop-count l = 64 - l.count
