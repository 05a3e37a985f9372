use Prim.Native.Nat.{◌*◌}
use Rattle.bits.specs.Paint.{Painted}
use Rattle.pages.specs.Passes.{packed_byte}
use Rattle.pages.proofs.pack.Given as goal

abbrev pub invariant-loop-k : goal.invariant-loop-k
invariant-loop-k l = Painted l.screen l.initial.screen 0 (2 * l.k) (packed_byte l.initial.screen)
