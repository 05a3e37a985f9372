-- A map is told by its cells: one that is sized and has f x y everywhere is `grid f`.
use mathlib.Core.Path.{◌≡◌, refl, sym, ap, ◌∙◌}
use mathlib.Core.List.{List, []}
use Prim.Native.Nat.{ℕ, zero, suc, ◌+◌, ◌<◌}
use native.Mathlib.Nat.{not-suc-le-zero, le_of_suc-le-suc, add-zero, zero-add}
use native.Mathlib.Omega.{arith}
use lib.ListN.{length, get_or}
use lib.Seq.{ext_get_or}
use Rattle.bits.specs.Tab.{tab}
use Rattle.bits.proofs.Tabs.{length-tab, get_or-tab}
use Rattle.attribute_map.specs.Map.{columns, rows, cell, rows_from, grid, Sized}

length-rows_from : (from n : ℕ) (f : ℕ → List ℕ) → length (rows_from from n f) ≡ n
unfolding rows_from
length-rows_from from zero f = refl
length-rows_from from (suc n) f = ap suc (length-rows_from (suc from) n f)

get_or-rows_from : (from n : ℕ) (f : ℕ → List ℕ) (k : ℕ) → k < n → get_or (rows_from from n f) k [] ≡ f (from + k)
unfolding rows_from
get_or-rows_from from zero f k h = absurd (not-suc-le-zero h)
get_or-rows_from from (suc n) f zero h = ap f (sym (add-zero from))
get_or-rows_from from (suc n) f (suc k) h =
    let e : suc from + k ≡ from + suc k = omega arith in
    get_or-rows_from (suc from) n f k (le_of_suc-le-suc h) ∙ ap f e

grid-row : (f : ℕ → ℕ → ℕ) (y : ℕ) → y < rows → get_or (grid f) y [] ≡ tab columns (λ x. f x y)
unfolding grid
grid-row f y h = get_or-rows_from 0 rows (λ j. tab columns (λ i. f i j)) y h ∙ ap (λ (k : ℕ). tab columns (λ i. f i k)) (zero-add y)

pub grid-sized : (f : ℕ → ℕ → ℕ) → Sized (grid f)
unfolding grid
grid-sized f =
    record {
      down = length-rows_from 0 rows (λ y. tab columns (λ x. f x y));
      across = λ y h. ap length (grid-row f y h) ∙ length-tab columns (λ x. f x y);
    }

pub grid-cell : (f : ℕ → ℕ → ℕ) (x y : ℕ) → x < columns → y < rows → cell (grid f) x y ≡ f x y
grid-cell f x y hx hy = ap (λ (r : List ℕ). get_or r x 0) (grid-row f y hy) ∙ get_or-tab columns (λ i. f i y) x hx

-- two sized maps with the same cells
pub same-cells : {m n : List (List ℕ)} → Sized m → Sized n → ((x y : ℕ) → x < columns → y < rows → cell m x y ≡ cell n x y) → m ≡ n
same-cells {m} {n} s t h =
    ext_get_or [] m n (s.down ∙ sym t.down)
    (λ y hy.
    let ly : y < rows = rw (sym s.down) hy in
    ext_get_or 0 (get_or m y []) (get_or n y []) (s.across y ly ∙ sym (t.across y ly)) (λ x hx. h x y (rw (sym (s.across y ly)) hx) ly))

pub grid_is : {m : List (List ℕ)} → Sized m → (f : ℕ → ℕ → ℕ) → ((x y : ℕ) → x < columns → y < rows → cell m x y ≡ f x y) → m ≡ grid f
grid_is s f h = same-cells s (grid-sized f) (λ x y hx hy. h x y hx hy ∙ sym (grid-cell f x y hx hy))
