-- RULES 4.8, ATTR_CHR, as laws of the definitions: each is a test that comes out one way.
use mathlib.Core.Path.{◌≡◌, refl, ◌∙◌}
use mathlib.Core.Bool.{true, false}
use mathlib.Core.List.{List}
use Prim.Native.Nat.{ℕ, zero, suc, ◌+◌, ◌<◌, ◌≤◌}
use native.Mathlib.Omega.{arith}
use borrow.Author.Tests.{lt-ltb, le-ltb}
use lib.Dec.{ltb}
use Rattle.bits.proofs.Tests.{and-false, either}
use Rattle.attribute_map.specs.Map.{columns, rows}
use Rattle.attribute_map.specs.Data.{steps}
use Rattle.attribute_cells.specs.Chr.{next, place_of, put_at}
use Rattle.attribute_cells.specs.declared.Spot.{Spot}

-- the step: along a row behind column 19 comes the next row's start, down a column behind row 17 the next column's
module _ (s : Spot) where
  pub along-next : s.x + 1 < columns → next true s ≡ record { x = s.x + 1; y = s.y }
  unfolding next
  along-next h = rw (lt-ltb (s.x + 1) columns h)

  pub along-ends : columns ≤ s.x + 1 → next true s ≡ record { x = 0; y = s.y + 1 }
  unfolding next
  along-ends h = rw (le-ltb (s.x + 1) columns h)

  pub down-next : s.y + 1 < rows → next false s ≡ record { x = s.x; y = s.y + 1 }
  unfolding next
  down-next h = rw (lt-ltb (s.y + 1) rows h)

  pub down_ends : rows ≤ s.y + 1 → next false s ≡ record { x = s.x + 1; y = 0 }
  unfolding next
  down_ends h = rw (le-ltb (s.y + 1) rows h)

  -- a place off the map changes no cell, and its pair is used up
  pub off-below : (v : ℕ) (m : List (List ℕ)) → rows ≤ s.y → put_at s v m ≡ m
  unfolding put_at
  off-below v m h = rw (le-ltb s.y rows h, and-false (ltb s.x columns))

  pub off-right : (v : ℕ) (m : List (List ℕ)) → columns ≤ s.x → put_at s v m ≡ m
  unfolding put_at
  off-right v m h = rw (le-ltb s.x columns h)

-- along rows y only grows, and down columns x, since neither wraps
lower : (s : Spot) → s.y ≤ (next true s).y
unfolding next
lower s = either (λ (t : Spot). s.y ≤ t.y) (ltb (s.x + 1) columns) (λ e. omega arith) (λ e. omega arith)

righter : (s : Spot) → s.x ≤ (next false s).x
unfolding next
righter s = either (λ (t : Spot). s.x ≤ t.x) (ltb (s.y + 1) rows) (λ e. omega arith) (λ e. omega arith)

never_up : (s : Spot) (k : ℕ) → s.y ≤ (place_of true s k).y
unfolding place_of
never_up s zero = omega arith
never_up s (suc k) = omega (arith, never_up s k, lower (place_of true s k))

never-left : (s : Spot) (k : ℕ) → s.x ≤ (place_of false s k).x
unfolding place_of
never-left s zero = omega arith
never-left s (suc k) = omega (arith, never-left s k, righter (place_of false s k))

-- so a start below the map, or right of it down columns, never comes back onto it
pub stays-below : (s : Spot) (v : ℕ → ℕ) (n : ℕ) (m : List (List ℕ)) → rows ≤ s.y → steps (λ k. put_at (place_of true s k) (v k)) n m ≡ m
unfolding steps
stays-below s v zero m h = refl
stays-below s v (suc n) m h =
    off-below (place_of true s n) (v n) (steps (λ k. put_at (place_of true s k) (v k)) n m) (omega (arith, never_up s n)) ∙ stays-below s v n m h

pub stays_right : (s : Spot) (v : ℕ → ℕ) (n : ℕ) (m : List (List ℕ)) → columns ≤ s.x → steps (λ k. put_at (place_of false s k) (v k)) n m ≡ m
unfolding steps
stays_right s v zero m h = refl
stays_right s v (suc n) m h =
    off-right (place_of false s n) (v n) (steps (λ k. put_at (place_of false s k) (v k)) n m) (omega (arith, never-left s n)) ∙ stays_right s v n m h
