-- Worked examples of ATTR_BLK, computed, on a map `m` that holds whatever it held.
use mathlib.Core.Path.{◌≡◌, refl}
use mathlib.Core.Bool.{◌&&◌, cond}
use mathlib.Core.List.{List, ◌∷◌}
use Prim.Native.Nat.{ℕ}
use lib.Dec.{eqb, ltb, leb}
use lib.ListN.{replicate}
use Rattle.bits.specs.Bit.{bit_of}
use Rattle.bits.specs.Tab.{tab, tab_from}
use Rattle.attribute_map.specs.Map.{rows_from, grid, cell}
use Rattle.attribute_map.specs.Data.{steps}
use Rattle.attribute_blocks.specs.Blk.{on_line, blk_pick, blk_cell, set_at, blk_map}

-- one set that is set inside alone, with one corner twice: this cell is its line, and follows the inside
pub blk-one-cell : (m : List (List ℕ)) → blk_map (0x21 ∷ 1 ∷ 1 ∷ 0x02 ∷ 3 ∷ 3 ∷ 3 ∷ 3 ∷ replicate 8 0) m ≡ grid (λ x y. cond (eqb x 3 && eqb y 3) 2 (cell m x y))
unfolding blk_map set_at blk_cell blk_pick on_line bit_of steps grid rows_from tab tab_from
blk-one-cell m = refl

-- one set that is set outside alone, with its corners crossed: every cell is outside
pub blk_all : (m : List (List ℕ)) → blk_map (0x21 ∷ 1 ∷ 4 ∷ 0x10 ∷ 5 ∷ 0 ∷ 4 ∷ 17 ∷ replicate 8 0) m ≡ grid (λ x y. 1)
unfolding blk_map set_at blk_cell blk_pick on_line bit_of steps grid rows_from tab tab_from
blk_all m = refl

-- the palettes 1 inside, 2 line, 3 outside, on the corners (2,3) (5,7)
abbrev block : ℕ → List (List ℕ) → List (List ℕ)
block control m = blk_map (0x21 ∷ 1 ∷ control ∷ 0x39 ∷ 2 ∷ 3 ∷ 5 ∷ 7 ∷ replicate 8 0) m

-- the map whose cells inside, on the line and outside are these
abbrev lying : (ℕ → ℕ → ℕ) → (ℕ → ℕ → ℕ) → (ℕ → ℕ → ℕ) → List (List ℕ)
lying i l o = grid (λ x y. cond (ltb 2 x && ltb x 5 && ltb 3 y && ltb y 7) (i x y) (cond (leb 2 x && leb x 5 && leb 3 y && leb y 7) (l x y) (o x y)))

-- the line as inside where that alone is set, as outside where that alone is, and as it was where both are; by itself where it is set
pub blk-lines : (m : List (List ℕ))
    → (block 1 m ≡ lying (λ x y. 1) (λ x y. 1) (cell m))
    × (block 4 m ≡ lying (cell m) (λ x y. 3) (λ x y. 3))
    × (block 5 m ≡ lying (λ x y. 1) (cell m) (λ x y. 3))
    × (block 2 m ≡ lying (cell m) (λ x y. 2) (cell m))
    × (block 7 m ≡ lying (λ x y. 1) (λ x y. 2) (λ x y. 3))
unfolding blk_map set_at blk_cell blk_pick on_line bit_of steps grid rows_from tab tab_from
blk-lines m = (refl, refl, refl, refl, refl)
