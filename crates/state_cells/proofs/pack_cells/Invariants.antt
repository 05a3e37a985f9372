use mathlib.Core.List.{List}
use Prim.Native.Nat.{ℕ, ◌+◌, ◌*◌, ◌%◌}
use lib.ListN.{get_or}
use Rattle.bits.specs.Paint.{Painted}
use Rattle.bits.specs.Pair.{packed}
use Rattle.state_cells.proofs.pack_cells.Given as goal

abbrev pub four_of : List ℕ → ℕ → ℕ
four_of l i = packed (λ j. get_or l (4 * i + j) 0 % 4)

abbrev pub invariant-loop-i : goal.invariant-loop-i
invariant-loop-i l = Painted l.packed l.initial.packed 0 l.i (four_of l.cells)
