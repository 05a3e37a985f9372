use Prim.Native.Nat.{◌+◌}
use Rattle.bits.specs.Paint.{Painted}
use Rattle.picture_lanes.specs.Lanes.{spread_of}
use Rattle.picture_lanes.proofs.fill_half.Given as goal

abbrev pub invariant-loop-k : goal.invariant-loop-k
invariant-loop-k g l = Painted l.out l.initial.out g.row.FROM l.k (λ i. spread_of (g.row.FROM + i))
