-- What the code's masks, shifts and tests of a flag say of a number's bits. At a numeral k the mask `2 ^ (1 + k) - 2 ^ k` computes to that of bit k.
use mathlib.Core.Path.{◌≡◌, refl, sym, ap, ◌∙◌}
use mathlib.Core.Bool.{true, false, not}
use Prim.Native.Nat.{ℕ, zero, suc, ◌+◌, ◌-◌, ◌*◌, ◌/◌, ◌%◌, ◌^◌, ◌<◌}
use native.Mathlib.Nat.{zero-mul, one-mul, not-suc-le-zero, le_of_suc-le-suc, div-lt_iff_lt-mul}
use native.Mathlib.Omega.{arith}
use lib.Bits.{bit_and, and_high, and_mask}
use lib.Dec.{eqb, ltb}
use lib.Pow.{pow_pos}
use borrow.Author.Tests.{eq-eqb, ne_eqb, le-ltb}
use Rattle.bits.specs.Bit.{bit_of}
use Rattle.bits.proofs.Tests.{same-ltb}

-- `n & 0x40 != 0` as a value: `flag n 6`
pub flag : (n k : ℕ) → not (eqb (bit_and n (2 ^ (1 + k) - 2 ^ k)) 0) ≡ bit_of k n
unfolding bit_of
flag n k = ap (λ (m : ℕ). not (eqb m 0)) (and_high n 1 k) ∙ go (n / 2 ^ k % 2) (2 ^ k) (omega arith) (pow_pos k)
  where
    go : (q p : ℕ) → q < 2 → 0 < p → not (eqb (q * p) 0) ≡ eqb q 1
    go zero p h g = ap (λ (m : ℕ). not (eqb m 0)) (zero-mul p)
    go (suc zero) p h g = ap not (ap (λ (m : ℕ). eqb m 0) (one-mul p) ∙ ne_eqb p 0 (λ e. omega arith))
    go (suc (suc q)) p h g = absurd (not-suc-le-zero (le_of_suc-le-suc (le_of_suc-le-suc h)))

-- the same test where a branch was taken
pub bit-set : (n k : ℕ) → (bit_and n (2 ^ (1 + k) - 2 ^ k) ≡ 0 → ⊥) → bit_of k n ≡ true
bit-set n k h = sym (flag n k) ∙ ap not (ne_eqb _ _ h)

-- and where it was left
pub bit-clear : (n k : ℕ) → bit_and n (2 ^ (1 + k) - 2 ^ k) ≡ 0 → bit_of k n ≡ false
bit-clear n k h = sym (flag n k) ∙ ap not (eq-eqb _ _ h)

-- `n & 3`, by its bare name in a `simp` list
pub pair-mask : (n : ℕ) → bit_and n 3 ≡ n % 4
pair-mask n = and_mask n 2

-- `n >> k == 0`: nothing is left of a number below 2 ^ k
pub shifted_out : (x n : ℕ) → eqb (x / 2 ^ n) 0 ≡ ltb x (2 ^ n)
shifted_out x n =
    let e : x < 1 * 2 ^ n → x < 2 ^ n = λ h. omega arith in
    let f : x < 2 ^ n → x < 1 * 2 ^ n = λ h. omega arith in
    below_one (x / 2 ^ n)
    ∙ same-ltb (x / 2 ^ n) 1 x (2 ^ n) (λ h. e ((div-lt_iff_lt-mul (pow_pos n)).0 h)) (λ h. (div-lt_iff_lt-mul (pow_pos n)).1 (f h))
  where
    below_one : (m : ℕ) → eqb m 0 ≡ ltb m 1
    below_one zero = refl
    below_one (suc m) = ne_eqb (suc m) 0 (λ e. omega arith) ∙ sym (le-ltb (suc m) 1 (omega arith))
