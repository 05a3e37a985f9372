use Prim.Native.Nat.{◌*◌}
use Rattle.bits.specs.Paint.{Painted}
use Rattle.pages.specs.Passes.{row_byte}
use Rattle.pages.proofs.lay_fours.Given as goal

abbrev pub invariant-loop-g : goal.invariant-loop-g
invariant-loop-g l = Painted l.screen l.initial.screen (l.y * 40) (8 * l.g) (row_byte l.page l.y)
