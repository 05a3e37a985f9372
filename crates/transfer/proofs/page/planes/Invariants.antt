use Prim.Native.Nat.{◌*◌, ◌/◌, ◌%◌}
use Rattle.bits.specs.Paint.{Painted}
use Rattle.transfer.specs.Passes.{plane_at}
use Rattle.transfer.proofs.page.planes.Given as goal

abbrev pub invariant-loop-k : goal.invariant-loop-k
invariant-loop-k l = Painted l.rows l.initial.rows 0 (2 * l.k) (λ i. plane_at l.screen (i / 2) (i % 2))
