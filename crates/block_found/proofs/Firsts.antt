-- What is asked of bytes in a row is told by the first that is not so: the others stand behind it.
use Prim.Native.Nat.{ℕ, suc, ◌+◌, ◌-◌, ◌/◌, ◌^◌, ◌≤◌, ◌<◌}
use native.Mathlib.Nat.{min-eq_left}
use native.Mathlib.Omega.{arith}
use mathlib.Core.Path.{◌≡◌, refl, sym, ap, ◌∙◌}
use mathlib.Core.Bool.{Bool, true, false, cond}
use mathlib.Core.List.{List, [], ◌∷◌, ◌++◌}
use mathlib.Core.Option.{Option, none, some}
use borrow.Author.Tests.{lt-ltb, le-ltb, eq-eqb, ne_eqb}
use lib.Dec.{eqb, ltb}
use lib.ListN.{get_or, length, take, drop, drop_of_length-le}
use lib.Seq.{drop-cons, drop-drop, take-add}
use Rattle.bits.specs.Over.{part}
use Rattle.bits.proofs.Overs.{length_part}
use Rattle.bits.proofs.Tests.{same-ltb}
use Rattle.broken.specs.Broken.{Asked, asked, zero_from, clear_from, byte_of, lower, lowest}
use Rattle.block_found.specs.Found.{first_set}

-- nothing of a list has a lower byte than n
unfoldable From : ℕ → List Asked → Type 0
From n [] = Unit {0}
From n (a ∷ l) = (n ≤ a.at) × From n l

unfoldable AtLeast : ℕ → Option ℕ → Type 0
AtLeast n none = Unit {0}
AtLeast n (some m) = n ≤ m

from_lowest : (n : ℕ) (l : List Asked) → From n l → AtLeast n (lowest l)
unfolding From AtLeast lowest lower byte_of
from_lowest n [] f = tt
from_lowest n (a ∷ l) f = go a.holds (lowest l) (from_lowest n l f.1)
  where
    go : (t : Bool) (y : Option ℕ) → AtLeast n y → AtLeast n (lower (cond t none (some a.at)) y)
    go true y k = k
    go false none k = f.0
    go false (some m) k = let h = f.0 in omega arith

-- then n stays the lowest
lower-first : (n : ℕ) (y : Option ℕ) → AtLeast n y → some n ≡ lower (some n) y
unfolding AtLeast lower
lower-first n none k = refl
lower-first n (some m) k = ap some (sym (min-eq_left k))

from_zero : (n at : ℕ) (l : List ℕ) → n ≤ at → From n (zero_from at l)
unfolding From zero_from
from_zero n at [] h = tt
from_zero n at (x ∷ l) h = (h, from_zero n (suc at) l (omega arith))

from-clear : (n i at : ℕ) (l : List ℕ) → n ≤ at → From n (clear_from i at l)
unfolding From clear_from
from-clear n i at [] h = tt
from-clear n i at (x ∷ l) h = (h, from-clear n (i - 8) (suc at) l (omega arith))

-- ---- zeros

pub set_told : (at : ℕ) (l : List ℕ) → lowest (zero_from at l) ≡ cond (ltb (first_set l) (length l)) (some (at + first_set l)) none
unfolding lowest lower byte_of zero_from first_set
set_told at [] = refl
set_told at (x ∷ l) = go (eqb x 0) (set_told (suc at) l)
  where
    go : (t : Bool) → lowest (zero_from (suc at) l) ≡ cond (ltb (first_set l) (length l)) (some (suc at + first_set l)) none
        → lower (cond t none (some at)) (lowest (zero_from (suc at) l))
        ≡ cond (ltb (cond t (suc (first_set l)) 0) (suc (length l))) (some (at + cond t (suc (first_set l)) 0)) none
    go true e =
        let s : suc at + first_set l ≡ at + suc (first_set l) = omega arith in
        e ∙ ap (λ n. cond (ltb (first_set l) (length l)) (some n) none) s
        ∙ ap (λ t. cond t (some (at + suc (first_set l))) none)
        (same-ltb (first_set l) (length l) (suc (first_set l)) (suc (length l)) (λ h. omega arith) (λ h. omega arith))
    go false e =
        let s : at ≡ at + 0 = omega arith in
        rw (lt-ltb 0 (suc (length l)) (omega arith))
        (sym (lower-first at (lowest (zero_from (suc at) l)) (from_lowest at (zero_from (suc at) l) (from_zero at (suc at) l (omega arith))))
        ∙ ap some s)

-- by how many zeros a look found: fewer than there are bytes, or so many
pub set-at : (at n : ℕ) (l : List ℕ) → n ≡ first_set l → n < length l → some (at + n) ≡ lowest (zero_from at l)
set-at at n l e h = sym (set_told at l ∙ rw (sym e, lt-ltb n (length l) h) refl)

pub set-not : (at n : ℕ) (l : List ℕ) → n ≡ first_set l → length l ≤ n → none ≡ lowest (zero_from at l)
set-not at n l e h = sym (set_told at l ∙ rw (sym e, le-ltb n (length l) h) refl)

-- parts that lie side by side are one part
zero-append : (at : ℕ) (k l : List ℕ) → zero_from at (k ++ l) ≡ zero_from at k ++ zero_from (at + length k) l
unfolding zero_from
zero-append at [] l = let s : at ≡ at + 0 = omega arith in ap (λ n. zero_from n l) s
zero-append at (x ∷ k) l =
    let s : suc at + length k ≡ at + suc (length k) = omega arith in
    ap (λ r. asked at (eqb x 0) ∷ r) (zero-append (suc at) k l ∙ ap (λ n. zero_from (suc at) k ++ zero_from n l) s)

pub zero_beside : (at n m : ℕ) (b : List ℕ) → at + n ≤ length b
    → zero_from at (part at (n + m) b) ≡ zero_from at (part at n b) ++ zero_from (at + n) (part (at + n) m b)
zero_beside at n m b h =
    ap (zero_from at) (take-add n m (drop at b) ∙ ap (λ d. take n (drop at b) ++ take m d) (drop-drop n at b))
    ∙ zero-append at (part at n b) (part (at + n) m b)
    ∙ ap (λ k. zero_from at (part at n b) ++ zero_from (at + k) (part (at + n) m b)) (length_part at n b h)

-- ---- a packet's bits past an index, byte by byte

module _ (left at i : ℕ) (l : List ℕ) (h : i < length l) where
  abbrev rest : List Asked
  rest = clear_from (left - 8) (suc at) (drop (suc i) l)

  clear-byte : lowest (clear_from left at (drop i l)) ≡ lower (byte_of (asked at (eqb (get_or l i 0 / 2 ^ left) 0))) (lowest rest)
  unfolding clear_from lowest
  clear-byte = rw (drop-cons l i 0 h) refl

  pub clear-found : (get_or l i 0 / 2 ^ left ≡ 0 → ⊥) → some at ≡ lowest (clear_from left at (drop i l))
  unfolding byte_of
  clear-found n =
      lower-first at (lowest rest) (from_lowest at rest (from-clear at (left - 8) (suc at) (drop (suc i) l) (omega arith)))
      ∙ sym (clear-byte ∙ rw (ne_eqb (get_or l i 0 / 2 ^ left) 0 n) refl)

  pub clear_next : get_or l i 0 / 2 ^ left ≡ 0 → lowest (clear_from left at (drop i l)) ≡ lowest rest
  unfolding byte_of lower
  clear_next e = clear-byte ∙ rw (eq-eqb (get_or l i 0 / 2 ^ left) 0 e) refl

pub clear_end : (left at i : ℕ) (l : List ℕ) → length l ≤ i → lowest (clear_from left at (drop i l)) ≡ none
unfolding clear_from lowest
clear_end left at i l h = rw (drop_of_length-le l {i = i} h) refl
