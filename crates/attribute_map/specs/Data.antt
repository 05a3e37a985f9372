-- What the four attribute commands share: their bytes d, the fields of a byte, and a map after n steps.
-- RULES 4.1; Pan Docs, Attributes.
use Rattle.std.specs.Prelude.{List, ℕ, zero, suc, ◌/◌, ◌%◌, ◌^◌, ◌≤◌, length}
use Rattle.parts.specs.Parts.{store_bytes}
use Rattle.attribute_map.specs.Map.{grid, cell}

-- a whole command: one to seven packets
pub record Whole (d : List ℕ) : Type 0 where
  pub least : 16 ≤ length d
  pub most : length d ≤ store_bytes

-- the palette number in bits k and k + 1 of a byte
abbrev pub palette_at : ℕ → ℕ → ℕ
palette_at k b = b / 2 ^ k % 4

-- a map with every cell changed by a rule of its column, its row and what it held
abbrev pub changed : (ℕ → ℕ → ℕ → ℕ) → List (List ℕ) → List (List ℕ)
changed f m = grid (λ x y. f x y (cell m x y))

-- a map after n steps, each told its number, from 0 on
unfoldable pub steps : (ℕ → List (List ℕ) → List (List ℕ)) → ℕ → List (List ℕ) → List (List ℕ)
steps f zero m = m
steps f (suc n) m = f n (steps f n m)
