-- The first byte that isn't zero: zeros before it and no others, and where it stands in a list's rest.
use Prim.Native.Nat.{ℕ, zero, suc, ◌+◌, ◌≤◌, ◌<◌}
use native.Mathlib.Omega.{arith}
use mathlib.Core.Path.{◌≡◌, sym}
use mathlib.Core.Bool.{Bool, true, false, cond, ◌&&◌, false≢true}
use mathlib.Core.List.{List, [], ◌∷◌}
use lib.Dec.{eqb}
use lib.ListN.{length, take, drop, length-drop}
use Rattle.bits.specs.Over.{part}
use Rattle.bits.specs.Zero.{zeros}
use Rattle.block_found.specs.Found.{first_set}

pub set-short : (l : List ℕ) → first_set l ≤ length l
unfolding first_set
set-short [] = omega arith
set-short (x ∷ l) = go (eqb x 0) (set-short l)
  where
    go : (t : Bool) → first_set l ≤ length l → cond t (suc (first_set l)) 0 ≤ suc (length l)
    go true h = omega arith
    go false h = omega arith

zeros-below : (n : ℕ) (l : List ℕ) → n ≤ length l → zeros (take n l) ≡ true → n ≤ first_set l
unfolding first_set zeros
zeros-below zero l h e = omega arith
zeros-below (suc n) [] h e = absurd (omega arith)
zeros-below (suc n) (x ∷ l) h e = go (eqb x 0) e (zeros-below n l (omega arith))
  where
    go : (t : Bool) → (t && zeros (take n l)) ≡ true → (zeros (take n l) ≡ true → n ≤ first_set l) → suc n ≤ cond t (suc (first_set l)) 0
    go true z f = let k = f z in omega arith
    go false z f = absurd (false≢true z)

set-above : (n : ℕ) (l : List ℕ) → zeros (take n l) ≡ false → first_set l < n
unfolding first_set zeros
set-above zero l e = absurd (false≢true (sym e))
set-above (suc n) [] e = absurd (false≢true (sym e))
set-above (suc n) (x ∷ l) e = go (eqb x 0) e (set-above n l)
  where
    go : (t : Bool) → (t && zeros (take n l)) ≡ false → (zeros (take n l) ≡ false → first_set l < n) → cond t (suc (first_set l)) 0 < suc n
    go true z f = let k = f z in omega arith
    go false z f = omega arith

set_rest : (k : ℕ) (l : List ℕ) → k ≤ first_set l → first_set l ≡ k + first_set (drop k l)
unfolding first_set
set_rest zero l h = omega arith
set_rest (suc k) [] h = absurd (omega arith)
set_rest (suc k) (x ∷ l) h = go (eqb x 0) h (set_rest k l)
  where
    go : (t : Bool) → suc k ≤ cond t (suc (first_set l)) 0 → (k ≤ first_set l → first_set l ≡ k + first_set (drop k l))
        → cond t (suc (first_set l)) 0 ≡ suc k + first_set (drop k l)
    go true p f = let q = f (omega arith) in omega arith
    go false p f = absurd (omega arith)

-- ---- a look at a part that begins before it, or at it

pub not_in : (from n : ℕ) (l : List ℕ) → from ≤ first_set l → from + n ≤ length l → zeros (part from n l) ≡ true → from + n ≤ first_set l
not_in from n l h k e =
    let s = set_rest from l h in
    let z = zeros-below n (drop from l) (simp length-drop (omega arith)) e in
    omega arith

pub is_in : (from n : ℕ) (l : List ℕ) → from ≤ first_set l → zeros (part from n l) ≡ false → first_set l < from + n
is_in from n l h e =
    let s = set_rest from l h in
    let z = set-above n (drop from l) e in
    omega arith
