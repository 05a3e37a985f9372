-- The place of a pair is one step from the place of the pair before it, and a step adds at most 1 to either number.
use mathlib.Core.Path.{◌≡◌, refl}
use mathlib.Core.Bool.{Bool, true, false, cond}
use Prim.Native.Nat.{ℕ, ◌+◌, ◌<◌, ◌≤◌}
use native.Mathlib.Numerals.{add-one}
use native.Mathlib.Omega.{arith}
use lib.Dec.{ltb}
use Rattle.attribute_map.specs.Map.{columns, rows}
use Rattle.attribute_cells.specs.Chr.{next, place_of}
use Rattle.attribute_cells.specs.declared.Spot.{Spot}

-- t is the place of pair k, where pair 0 is at s
pub record Placed (along : Bool) (s t : Spot) (k : ℕ) : Type 0 where
  pub is : t ≡ place_of along s k

pub placed_none : {along : Bool} {s : Spot} → Placed along s s 0
unfolding place_of
placed_none = record { is = refl }

pub placed-more : {along : Bool} {s t u : Spot} {k : ℕ} → Placed along s t k → u ≡ next along t → Placed along s u (k + 1)
unfolding place_of
placed-more p g = record { is = rw (add-one, g, p.is) }

-- both numbers are below n
pub record Near (n : ℕ) (s : Spot) : Type 0 where
  pub across : s.x < n
  pub down : s.y < n

near-either : (t : Bool) {a b : Spot} {n : ℕ} → Near n a → Near n b → Near n (cond t a b)
near-either true p q = p
near-either false p q = q

pub near_next : (along : Bool) {s t : Spot} {n : ℕ} → Near n s → t ≡ next along s → (m : ℕ) → n + 1 ≤ m → Near m t
unfolding next
near_next along {s} {t} {n} h e m l = rw e (go along)
  where
    go : (a : Bool) → Near m (next a s)
    go true = near-either (ltb (s.x + 1) columns) (record { across = omega arith; down = omega arith }) (record { across = omega arith; down = omega arith })
    go false = near-either (ltb (s.y + 1) rows) (record { across = omega arith; down = omega arith }) (record { across = omega arith; down = omega arith })
