use Prim.Native.Nat.{◌*◌}
use Rattle.bits.specs.Paint.{Painted}
use Rattle.pages.specs.Passes.{laid_byte}
use Rattle.pages.proofs.lay.Given as goal

abbrev pub invariant-loop-y : goal.invariant-loop-y
invariant-loop-y l = Painted l.screen l.initial.screen 0 (l.y * 40) (laid_byte l.page)
