-- RULES 4.6 and 4.7, on ATTR_LIN and ATTR_DIV, as laws of the definitions: each is a test that comes out one way.
use mathlib.Core.Path.{◌≡◌, sym, ◌∙◌}
use mathlib.Core.Bool.{true, false}
use mathlib.Core.List.{List}
use Prim.Native.Nat.{ℕ, ◌%◌, ◌<◌, ◌≤◌}
use native.Mathlib.Omega.{arith}
use borrow.Author.Tests.{lt-ltb, le-ltb, eq-eqb, ne_eqb}
use lib.ListN.{get_or}
use Rattle.bits.specs.Bit.{bit_of}
use Rattle.attribute_map.specs.Map.{columns, rows, cell, grid, Sized}
use Rattle.attribute_map.proofs.Grids.{grid-sized, grid-cell, grid_is}
use Rattle.attribute_map.specs.Data.{palette_at, changed}
use Rattle.attributes.specs.Div.{side_of, div_cell, div_map}
use Rattle.attributes.specs.Lin.{lin_cell}

-- ---- ATTR_LIN

module _ (b x y old : ℕ) where
  -- bit 7: a row, each cell of it and no other gets the palette in bits 5 and 6
  pub lin-row : bit_of 7 b ≡ true → y ≡ b % 32 → lin_cell b x y old ≡ palette_at 5 b
  unfolding lin_cell
  lin-row e h = rw (e, eq-eqb y (b % 32) h)

  pub lin-other-row : bit_of 7 b ≡ true → (y ≡ b % 32 → ⊥) → lin_cell b x y old ≡ old
  unfolding lin_cell
  lin-other-row e h = rw (e, ne_eqb y (b % 32) h)

  -- else a column
  pub lin-column : bit_of 7 b ≡ false → x ≡ b % 32 → lin_cell b x y old ≡ palette_at 5 b
  unfolding lin_cell
  lin-column e h = rw (e, eq-eqb x (b % 32) h)

  pub lin-other-column : bit_of 7 b ≡ false → (x ≡ b % 32 → ⊥) → lin_cell b x y old ≡ old
  unfolding lin_cell
  lin-other-column e h = rw (e, ne_eqb x (b % 32) h)

-- a line past the map leaves the map as it is
module _ {m : List (List ℕ)} (s : Sized m) (b : ℕ) where
  pub past-rows : bit_of 7 b ≡ true → rows ≤ b % 32 → changed (lin_cell b) m ≡ m
  past-rows e h = sym (grid_is s (λ x y. lin_cell b x y (cell m x y)) (λ x y hx hy. sym (lin-other-row b x y (cell m x y) e (λ q. omega arith))))

  pub past-columns : bit_of 7 b ≡ false → columns ≤ b % 32 → changed (lin_cell b) m ≡ m
  past-columns e h = sym (grid_is s (λ x y. lin_cell b x y (cell m x y)) (λ x y hx hy. sym (lin-other-column b x y (cell m x y) e (λ q. omega arith))))

-- ---- ATTR_DIV: flags d1, line d2

module _ (d : List ℕ) (x y : ℕ) (hx : x < columns) (hy : y < rows) where
  divided : cell (div_map d) x y ≡ div_cell (get_or d 1 0) (get_or d 2 0) x y
  unfolding div_map
  divided = grid-cell (div_cell (get_or d 1 0) (get_or d 2 0)) x y hx hy

  -- bit 6: the row counts. Before the line bits 2 and 3, on it bits 4 and 5, after it bits 0 and 1
  module _ (e : bit_of 6 (get_or d 1 0) ≡ true) where
    pub row_before : y < get_or d 2 0 → cell (div_map d) x y ≡ palette_at 2 (get_or d 1 0)
    unfolding div_cell side_of
    row_before h = divided ∙ rw (e, lt-ltb y (get_or d 2 0) h)

    pub row_on : y ≡ get_or d 2 0 → cell (div_map d) x y ≡ palette_at 4 (get_or d 1 0)
    unfolding div_cell side_of
    row_on h = divided ∙ rw (e, le-ltb y (get_or d 2 0) (omega arith), eq-eqb y (get_or d 2 0) h)

    pub row-after : get_or d 2 0 < y → cell (div_map d) x y ≡ palette_at 0 (get_or d 1 0)
    unfolding div_cell side_of
    row-after h = divided ∙ rw (e, le-ltb y (get_or d 2 0) (omega arith), ne_eqb y (get_or d 2 0) (λ q. omega arith))

  -- else the column
  module _ (e : bit_of 6 (get_or d 1 0) ≡ false) where
    pub column-before : x < get_or d 2 0 → cell (div_map d) x y ≡ palette_at 2 (get_or d 1 0)
    unfolding div_cell side_of
    column-before h = divided ∙ rw (e, lt-ltb x (get_or d 2 0) h)

    pub column-on : x ≡ get_or d 2 0 → cell (div_map d) x y ≡ palette_at 4 (get_or d 1 0)
    unfolding div_cell side_of
    column-on h = divided ∙ rw (e, le-ltb x (get_or d 2 0) (omega arith), eq-eqb x (get_or d 2 0) h)

    pub column-after : get_or d 2 0 < x → cell (div_map d) x y ≡ palette_at 0 (get_or d 1 0)
    unfolding div_cell side_of
    column-after h = divided ∙ rw (e, le-ltb x (get_or d 2 0) (omega arith), ne_eqb x (get_or d 2 0) (λ q. omega arith))

-- the line is the whole byte d2: with one past the map every cell is before it
module _ (d : List ℕ) where
  every-before : ((x y : ℕ) → x < columns → y < rows → cell (div_map d) x y ≡ palette_at 2 (get_or d 1 0)) → div_map d ≡ grid (λ x y. palette_at 2 (get_or d 1 0))
  unfolding div_map
  every-before h = grid_is (grid-sized (div_cell (get_or d 1 0) (get_or d 2 0))) (λ x y. palette_at 2 (get_or d 1 0)) h

  pub div-past-rows : bit_of 6 (get_or d 1 0) ≡ true → rows ≤ get_or d 2 0 → div_map d ≡ grid (λ x y. palette_at 2 (get_or d 1 0))
  div-past-rows e h = every-before (λ x y hx hy. row_before d x y hx hy e (omega arith))

  pub div-past-columns : bit_of 6 (get_or d 1 0) ≡ false → columns ≤ get_or d 2 0 → div_map d ≡ grid (λ x y. palette_at 2 (get_or d 1 0))
  div-past-columns e h = every-before (λ x y hx hy. column-before d x y hx hy e (omega arith))
