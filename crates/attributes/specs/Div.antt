-- ATTR_DIV: the map in two halves and the line between. RULES 4.7; Pan Docs, Attributes.
use Rattle.std.specs.Prelude.{cond, List, ℕ, get_or, ltb, eqb}
use Rattle.bits.specs.Bit.{bit_of}
use Rattle.attribute_map.specs.Map.{grid}
use Rattle.attribute_map.specs.Data.{palette_at}

-- the palette of a row or column p against the line at c: before, on, after
unfoldable pub side_of : ℕ → ℕ → ℕ → ℕ
side_of flags c p = cond (ltb p c) (palette_at 2 flags) (cond (eqb p c) (palette_at 4 flags) (palette_at 0 flags))

-- bit 6 of the flags: the row counts, else the column
unfoldable pub div_cell : ℕ → ℕ → ℕ → ℕ → ℕ
div_cell flags c x y = side_of flags c (cond (bit_of 6 flags) y x)

-- flags d1, line d2
unfoldable pub div_map : List ℕ → List (List ℕ)
div_map d = grid (div_cell (get_or d 1 0) (get_or d 2 0))
