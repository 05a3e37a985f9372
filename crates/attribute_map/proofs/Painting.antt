-- A map that two nested loops paint, `for y in 0..18 { for x in 0..20 { m[y][x] = rule(..); } }`: a store changes its own cell alone,
-- so what is painted stays. `Painting R m y x` is the invariant of both loops, at x = 0 that of the outer one.
use mathlib.Core.Path.{◌≡◌, ap, sym, subst, ◌∙◌}
use mathlib.Core.List.{List, []}
use Prim.Native.Nat.{ℕ, ◌+◌, ◌<◌, ◌≤◌}
use native.Mathlib.Nat.{not-suc-le-zero}
use native.Mathlib.Omega.{arith}
use native.Mathlib.Decide.{ℕ_discrete}
use borrow.Author.Count.{below_more}
use lib.ListN.{length, get_or, set, length-set}
use lib.Seq.{get_or-set_same, get_or-set_other}
use Rattle.attribute_map.specs.Map.{columns, rows, cell, grid, Sized}
use Rattle.attribute_map.proofs.Grids.{grid_is}

-- the store `m[y][x] = v`
abbrev pub stored : List (List ℕ) → ℕ → ℕ → ℕ → List (List ℕ)
stored m x y v = set m y (set (get_or m y []) x v)

module _ {m : List (List ℕ)} (s : Sized m) {x y : ℕ} (v : ℕ) (hx : x < columns) (hy : y < rows) where
  row : List ℕ
  row = set (get_or m y []) x v

  there : y < length m
  there = rw s.down hy

  pub stored_here : cell (stored m x y v) x y ≡ v
  stored_here =
      let hl : x < length (get_or m y []) = rw (s.across y hy) hx in
      ap (λ (r : List ℕ). get_or r x 0) (get_or-set_same m y (set (get_or m y []) x v) [] there) ∙ get_or-set_same (get_or m y []) x v 0 hl

  pub stored-in-row : (i : ℕ) → (i ≡ x → ⊥) → cell (stored m x y v) i y ≡ cell m i y
  stored-in-row i h =
      ap (λ (r : List ℕ). get_or r i 0) (get_or-set_same m y (set (get_or m y []) x v) [] there) ∙ get_or-set_other (get_or m y []) x i v 0 h

  pub stored-elsewhere : (i j : ℕ) → (j ≡ y → ⊥) → cell (stored m x y v) i j ≡ cell m i j
  stored-elsewhere i j h = ap (λ (r : List ℕ). get_or r i 0) (get_or-set_other m y j (set (get_or m y []) x v) [] h)

  long : (j : ℕ) → j < rows → Dec (j ≡ y) → length (get_or (stored m x y v) j []) ≡ columns
  long j k (yes p) = rw p (rw (get_or-set_same m y (set (get_or m y []) x v) [] there) (length-set (get_or m y []) x v ∙ s.across y hy))
  long j k (no p) = rw (get_or-set_other m y j (set (get_or m y []) x v) [] p) (s.across j k)

  pub stored-sized : Sized (stored m x y v)
  stored-sized = record { down = length-set m y (set (get_or m y []) x v) ∙ s.down; across = λ j k. long j k (ℕ_discrete j y) }

-- the rows above y are painted, and x cells of row y: R i j v says of a cell in column i and row j that it may hold v
pub record Painting (R : ℕ → ℕ → ℕ → Type 0) (m : List (List ℕ)) (y x : ℕ) : Type 0 where
  pub sized : Sized m
  pub above : (j : ℕ) → j < y → (i : ℕ) → i < columns → R i j (cell m i j)
  pub left : (i : ℕ) → i < x → R i y (cell m i y)

pub painting_none : {R : ℕ → ℕ → ℕ → Type 0} {m : List (List ℕ)} → Sized m → Painting R m 0 0
painting_none s = record { sized = s; above = λ j h. absurd (not-suc-le-zero h); left = λ i h. absurd (not-suc-le-zero h) }

pub painting_turn : {R : ℕ → ℕ → ℕ → Type 0} {m : List (List ℕ)} {y x : ℕ} → Painting R m y x → (v : ℕ) → x < columns → y < rows → R x y v
    → Painting R (stored m x y v) y (x + 1)
painting_turn {R} {m} {y} {x} p v hx hy e =
    let s = p.sized in
    record {
      sized = stored-sized s v hx hy;
      above = λ j h i k. subst (R i j) (sym (stored-elsewhere s v hx hy i j (λ q. omega arith))) (p.above j h i k);
      left =
          below_more (λ (i : ℕ). R i y (cell (stored m x y v) i y)) x
          (λ i h. subst (R i y) (sym (stored-in-row s v hx hy i (λ q. omega arith))) (p.left i h))
          (subst (R x y) (sym (stored_here s v hx hy)) e);
    }

pub painting-row : {R : ℕ → ℕ → ℕ → Type 0} {m : List (List ℕ)} {y x : ℕ} → Painting R m y x → columns ≤ x → Painting R m (y + 1) 0
painting-row {R} {m} {y} {x} p h =
    record {
      sized = p.sized;
      above = below_more (λ (j : ℕ). (i : ℕ) → i < columns → R i j (cell m i j)) y p.above (λ i k. p.left i (omega arith));
      left = λ i k. absurd (not-suc-le-zero k);
    }

-- with all of them painted, and R leaving one value for each cell, the map is told
pub painting_all : {R : ℕ → ℕ → ℕ → Type 0} {m : List (List ℕ)} {y : ℕ} → Painting R m y 0 → rows ≤ y → (f : ℕ → ℕ → ℕ)
    → ((i j v : ℕ) → R i j v → v ≡ f i j) → m ≡ grid f
painting_all {R} {m} {y} p h f e = grid_is p.sized f (λ i j hi hj. e i j (cell m i j) (p.above j (omega arith) i hi))
