-- A screen and an attribute map as they are packed: row by row, four numbers of two bits in a byte, from the high bits down.
-- RULES 1.1 to 1.3; Pan Docs, Attributes.
use Rattle.std.specs.Prelude.{ℕ, ◌+◌, ◌*◌, ◌/◌, ◌%◌, List, get_or}
use Rattle.bits.specs.Pair.{pair_of}

-- the k-th number of a packed list
unfoldable pub pair_at : List ℕ → ℕ → ℕ
pair_at b k = pair_of (get_or b (k / 4) 0) (k % 4)

-- the shade at column x of row y of a screen, 160 by 144
abbrev pub shade_at : List ℕ → ℕ → ℕ → ℕ
shade_at screen x y = pair_at screen (y * 160 + x)

-- the palette number of the cell at column x of row y of an attribute map, 20 by 18
abbrev pub cell_at : List ℕ → ℕ → ℕ → ℕ
cell_at attributes x y = pair_at attributes (y * 20 + x)
