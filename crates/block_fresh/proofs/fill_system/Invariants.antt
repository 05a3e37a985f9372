use mathlib.Core.List.{List, [], ◌∷◌, ◌++◌}
use mathlib.Core.Path.{◌≡◌}
use Prim.Native.Nat.{ℕ, ◌*◌}
use lib.ListN.{drop}
use Rattle.layout.specs.Fresh.{times, word_bytes}
use Rattle.block_fresh.proofs.fill_system.Given as goal

abbrev pub palette : List ℕ
palette = word_bytes (0x7FFF ∷ 0x56B5 ∷ 0x294A ∷ 0x0000 ∷ [])

abbrev pub invariant-loop-i : goal.invariant-loop-i
invariant-loop-i l = l.system ≡ times l.i palette ++ drop (8 * l.i) l.initial.system
