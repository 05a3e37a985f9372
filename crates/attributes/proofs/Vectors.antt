-- Worked examples of ATTR_LIN and ATTR_DIV, computed. Where a map `m` stands in one, it holds whatever the map held.
use mathlib.Core.Path.{◌≡◌, refl}
use mathlib.Core.Bool.{cond}
use mathlib.Core.List.{List, ◌∷◌}
use Prim.Native.Nat.{ℕ}
use lib.Dec.{eqb}
use lib.ListN.{replicate}
use Rattle.bits.specs.Bit.{bit_of}
use Rattle.bits.specs.Tab.{tab, tab_from}
use Rattle.attribute_map.specs.Map.{rows_from, grid, cell}
use Rattle.attribute_map.specs.Data.{steps}
use Rattle.attributes.specs.Div.{side_of, div_cell, div_map}
use Rattle.attributes.specs.Lin.{lin_cell, lin_map}

-- ---- ATTR_LIN

-- three lines: row 3 to 3, then column 4 to 2, over it where they cross, and row 18, which is past the map
pub lin-three : (m : List (List ℕ)) → lin_map (0x29 ∷ 3 ∷ 0xE3 ∷ 0x44 ∷ 0xF2 ∷ replicate 11 0) m ≡ grid (λ x y. cond (eqb x 4) 2 (cond (eqb y 3) 3 (cell m x y)))
unfolding lin_map lin_cell bit_of steps grid rows_from tab tab_from
lin-three m = refl

-- ---- ATTR_DIV

-- the palettes 1 after, 2 before, 3 on the line
abbrev divided : ℕ → ℕ → List (List ℕ)
divided flags line = div_map (0x31 ∷ flags ∷ line ∷ replicate 13 0)

-- at column 7: left of it, on it, right of it
pub div_column : (cell (divided 0x39 7) 6 9 ≡ 2) × (cell (divided 0x39 7) 7 9 ≡ 3) × (cell (divided 0x39 7) 8 9 ≡ 1)
unfolding div_map div_cell side_of bit_of grid rows_from tab tab_from
div_column = (refl, refl, refl)

-- with bit 6 at row 7: above it, on it, below it
pub div_row : (cell (divided 0x79 7) 9 6 ≡ 2) × (cell (divided 0x79 7) 9 7 ≡ 3) × (cell (divided 0x79 7) 9 8 ≡ 1)
unfolding div_map div_cell side_of bit_of grid rows_from tab tab_from
div_row = (refl, refl, refl)

-- 27 hex is line 39, and not line 7: every cell is before it
pub div_past : divided 0x39 0x27 ≡ grid (λ x y. 2)
unfolding div_map div_cell side_of bit_of grid rows_from tab tab_from
div_past = refl
