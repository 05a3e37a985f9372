-- ATTR_CHR: cell after cell. RULES 4.8; Pan Docs, Attributes.
use Rattle.std.specs.Prelude.{Bool, true, false, ◌&&◌, cond, List, [], ℕ, zero, suc, ◌+◌, ◌-◌, ◌*◌, ◌/◌, ◌%◌, min, length, get_or, set, ltb, eqb}
use Rattle.bits.specs.Pair.{pair_of}
use Rattle.bits.specs.Word.{word_at}
use Rattle.attribute_map.specs.Map.{columns, rows}
use Rattle.attribute_map.specs.Data.{steps}
use Rattle.attribute_cells.specs.declared.Spot.{Spot}

-- the place after another: along a row to the next row's start, or down a column to the next column's. Neither number wraps at 256
unfoldable pub next : Bool → Spot → Spot
next true s = cond (ltb (s.x + 1) columns) (record { x = s.x + 1; y = s.y }) (record { x = 0; y = s.y + 1 })
next false s = cond (ltb (s.y + 1) rows) (record { x = s.x; y = s.y + 1 }) (record { x = s.x + 1; y = 0 })

-- the place of pair k, where pair 0 is at s
unfoldable pub place_of : Bool → Spot → ℕ → Spot
place_of along s zero = s
place_of along s (suc k) = next along (place_of along s k)

-- a place on the map gets v; a place off it uses v up
unfoldable pub put_at : Spot → ℕ → List (List ℕ) → List (List ℕ)
put_at s v m = cond (ltb s.x columns && ltb s.y rows) (set m s.y (set (get_or m s.y []) s.x v)) m

-- pair k of the data, which begin at d6, four to a byte, high first
unfoldable pub pair_of_data : List ℕ → ℕ → ℕ
pair_of_data d k = pair_of (get_or d (6 + k / 4) 0) (k % 4)

-- from (d1, d2), along rows if d5 is zero: as many pairs as the word d3 says, or as there are
unfoldable pub chr_map : List ℕ → List (List ℕ) → List (List ℕ)
chr_map d m =
    let start : Spot = record { x = get_or d 1 0; y = get_or d 2 0 } in
    let along : Bool = eqb (get_or d 5 0) 0 in
    steps (λ k. put_at (place_of along start k) (pair_of_data d k)) (min (word_at d 3) (4 * (length d - 6))) m
