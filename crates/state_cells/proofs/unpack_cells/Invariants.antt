use mathlib.Core.List.{List}
use Prim.Native.Nat.{ℕ, ◌*◌, ◌/◌, ◌%◌}
use lib.ListN.{get_or}
use Rattle.bits.specs.Paint.{Painted}
use Rattle.bits.specs.Pair.{pair_of}
use Rattle.state_cells.proofs.unpack_cells.Given as goal

abbrev pub pair_in : List ℕ → ℕ → ℕ
pair_in l k = pair_of (get_or l (k / 4) 0) (k % 4)

abbrev pub invariant-loop-i : goal.invariant-loop-i
invariant-loop-i l = Painted l.cells l.initial.cells 0 (4 * l.i) (pair_in l.packed)
