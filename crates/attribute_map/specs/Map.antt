-- The attribute map: a palette number for each of 20 by 18 cells (RULES 1.3; Pan Docs, Attributes). It is held as eighteen rows of twenty,
-- and stands in the block packed, as ninety bytes, five a row.
use Rattle.std.specs.Prelude.{◌≡◌, List, [], ◌∷◌, ℕ, zero, suc, ◌+◌, ◌*◌, ◌/◌, ◌%◌, ◌<◌, length, get_or}
use Rattle.parts.specs.Parts.{map_bytes}
use Rattle.bits.specs.Pair.{pair_of, packed}
use Rattle.bits.specs.Tab.{tab}

abbrev pub columns : ℕ
columns = 20

abbrev pub rows : ℕ
rows = 18

-- the bytes of a packed row
abbrev pub row_bytes : ℕ
row_bytes = 5

-- the cell in column x and row y
abbrev pub cell : List (List ℕ) → ℕ → ℕ → ℕ
cell m x y = get_or (get_or m y []) x 0

-- n rows by a rule, the first by f from
unfoldable pub rows_from : ℕ → ℕ → (ℕ → List ℕ) → List (List ℕ)
rows_from from zero f = []
rows_from from (suc n) f = f from ∷ rows_from (suc from) n f

-- the map whose cell in column x and row y is f x y
unfoldable pub grid : (ℕ → ℕ → ℕ) → List (List ℕ)
grid f = rows_from 0 rows (λ y. tab columns (λ x. f x y))

-- eighteen rows of twenty
pub record Sized (m : List (List ℕ)) : Type 0 where
  pub down : length m ≡ rows
  pub across : (y : ℕ) → y < rows → length (get_or m y []) ≡ columns

-- the byte of four cells that stands at i; two bits of each cell are kept, and a palette number has no more
abbrev pub four_at : List (List ℕ) → ℕ → ℕ
four_at m i = packed (λ j. cell m (4 * (i % row_bytes) + j) (i / row_bytes) % 4)

-- a map as its bytes
unfoldable pub pack : List (List ℕ) → List ℕ
pack m = tab map_bytes (four_at m)

-- the cell in column x and row y of packed bytes
abbrev pub packed_cell : List ℕ → ℕ → ℕ → ℕ
packed_cell b x y = pair_of (get_or b (row_bytes * y + x / 4) 0) (x % 4)

-- the map that bytes are
unfoldable pub unpack : List ℕ → List (List ℕ)
unpack b = grid (packed_cell b)
