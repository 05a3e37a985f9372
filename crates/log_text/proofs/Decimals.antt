-- The number of digits that `io::decimal` answers is the definition's.
use Prim.Native.Nat.{ℕ, zero, suc, ◌+◌, ◌-◌, ◌^◌, ◌≤◌, ◌<◌}
use mathlib.Core.Bool.{Bool, true, false, cond}
use mathlib.Core.Path.{◌≡◌, refl, ap, sym, ◌∙◌}
use mathlib.Core.List.{List}
use native.Mathlib.Omega.{arith}
use native.Mathlib.Nat.{pow-le-pow_right, not-le_of_lt, le_trans}
use borrow.Author.Tests.{ltb-true, ltb-false}
use lib.Dec.{ltb}
use Rattle.io.specs.Digits.{last_digits, IsDigitCount}
use Rattle.log_text.specs.Text.{places_from, decimal_text}

-- a number below 10 to the k takes no more than k digits
pub not_more : (n k r : ℕ) → 1 ≤ k → n < 10 ^ k → IsDigitCount 10 1 n r → r ≤ k
not_more n k r h1 h f = go (ltb k r) refl where
  go : (t : Bool) → ltb k r ≡ t → r ≤ k
  go true e =
      let l : k < r = ltb-true k r e in
      let p : 10 ^ k ≤ 10 ^ (r - 1) = pow-le-pow_right {n = 10} (omega arith) {i = k} {j = r - 1} (omega arith) in
      let q : 10 ^ (r - 1) ≤ n = f.2 (omega arith) in
      absurd (not-le_of_lt h (le_trans p q))
  go false e = ltb-false k r e

places_found : (more k n r : ℕ) → 1 ≤ k → k ≤ r → r ≤ k + more → IsDigitCount 10 1 n r → places_from more k n ≡ r
unfolding places_from
places_found zero k n r h1 hk hr f = omega arith
places_found (suc more) k n r h1 hk hr f = go (ltb n (10 ^ k)) refl (λ h. places_found more (suc k) n r (omega arith) h (omega arith) f) where
  go : (t : Bool) → ltb n (10 ^ k) ≡ t → (suc k ≤ r → places_from more (suc k) n ≡ r) → cond (ltb n (10 ^ k)) k (places_from more (suc k) n) ≡ r
  go true e ih = let m : r ≤ k = not_more n k r h1 (ltb-true n (10 ^ k) e) f in rw e (omega arith)
  go false e ih = let l : 10 ^ k ≤ n = ltb-false n (10 ^ k) e in rw e (ih (more-digits (ltb k r) refl l))
    where
      more-digits : (t : Bool) → ltb k r ≡ t → 10 ^ k ≤ n → suc k ≤ r
      more-digits true d l = ltb-true k r d
      more-digits false d l =
          let g : r ≤ k = ltb-false k r d in
          let p : 10 ^ r ≤ 10 ^ k = pow-le-pow_right {n = 10} (omega arith) {i = r} {j = k} g in
          absurd (not-le_of_lt f.1 (le_trans p l))

pub decimal_found : (n r : ℕ) (t : List ℕ) → r ≤ 20 → IsDigitCount 10 1 n r → t ≡ last_digits 10 r n → t ≡ decimal_text n
unfolding decimal_text
decimal_found n r t h f e = e ∙ ap (λ (k : ℕ). last_digits 10 k n) (sym (places_found 19 1 n r (omega arith) f.0 (omega arith) f))
