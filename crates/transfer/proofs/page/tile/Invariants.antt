use Prim.Native.Nat.{◌*◌}
use Rattle.bits.specs.Paint.{Painted}
use Rattle.transfer.specs.Passes.{tile_byte}
use Rattle.transfer.proofs.page.tile.Given as goal

abbrev pub invariant-loop-r : goal.invariant-loop-r
invariant-loop-r l = Painted l.out l.initial.out (l.t * 16) (2 * l.r) (tile_byte l.rows l.t)
