use Prim.Native.Nat.{◌*◌}
use Rattle.bits.specs.Paint.{Painted}
use Rattle.transfer.specs.Passes.{tiles_byte}
use Rattle.transfer.proofs.page.tiles.Given as goal

abbrev pub invariant-loop-t : goal.invariant-loop-t
invariant-loop-t l = Painted l.out l.initial.out 0 (l.t * 16) (tiles_byte l.rows)
