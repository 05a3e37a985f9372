-- ATTR_LIN: whole rows and columns. RULES 4.6; Pan Docs, Attributes.
use Rattle.std.specs.Prelude.{cond, List, ℕ, ◌+◌, ◌-◌, ◌%◌, min, length, get_or, eqb}
use Rattle.bits.specs.Bit.{bit_of}
use Rattle.attribute_map.specs.Data.{palette_at, changed, steps}

-- one byte: the line in its low five bits is a row if bit 7 is set, else a column; bits 5 and 6 the palette. A line past the map meets no cell
unfoldable pub lin_cell : ℕ → ℕ → ℕ → ℕ → ℕ
lin_cell b x y old = cond (eqb (cond (bit_of 7 b) y x) (b % 32)) (palette_at 5 b) old

-- d1 bytes from d2 on, or as many as there are
unfoldable pub lin_map : List ℕ → List (List ℕ) → List (List ℕ)
lin_map d m = steps (λ i. changed (lin_cell (get_or d (2 + i) 0))) (min (get_or d 1 0) (length d - 2)) m
