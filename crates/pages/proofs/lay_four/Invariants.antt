use Prim.Native.Nat.{◌*◌}
use Rattle.bits.specs.Paint.{Painted}
use Rattle.pages.specs.Passes.{four_byte}
use Rattle.pages.proofs.lay_four.Given as goal

abbrev pub invariant-loop-c : goal.invariant-loop-c
invariant-loop-c l = Painted l.screen l.initial.screen l.i (2 * l.c) (four_byte l.page l.o)
