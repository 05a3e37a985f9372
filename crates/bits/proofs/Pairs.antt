-- Packing and taking out are inverse, both ways: a packed byte is told by its four pairs. The code's shifts and masks are tried at every byte.
use mathlib.Core.Path.{◌≡◌}
use Prim.Native.Nat.{ℕ, zero, suc, ◌-◌, ◌*◌, ◌/◌, ◌^◌, ◌<◌}
use native.Mathlib.Nat.{not-suc-le-zero, le_of_suc-le-suc}
use native.Mathlib.Omega.{arith}
use lib.Bits.{bit_and}
use Rattle.bits.specs.Pair.{pair_of, packed}
use Rattle.bits.proofs.Every.{same-below, same_below₂}

pub pair_lt : (x j : ℕ) → pair_of x j < 4
unfolding pair_of
pair_lt x j = omega arith

pub pair_of-packed : (f : ℕ → ℕ) → ((i : ℕ) → f i < 4) → (j : ℕ) → j < 4 → pair_of (packed f) j ≡ f j
unfolding pair_of packed
pair_of-packed f h zero lt = omega (arith, h 0, h 1, h 2, h 3)
pair_of-packed f h (suc zero) lt = omega (arith, h 0, h 1, h 2, h 3)
pair_of-packed f h (suc (suc zero)) lt = omega (arith, h 0, h 1, h 2, h 3)
pair_of-packed f h (suc (suc (suc zero))) lt = omega (arith, h 0, h 1, h 2, h 3)
pair_of-packed f h (suc (suc (suc (suc j)))) lt = absurd (not-suc-le-zero (le_of_suc-le-suc (le_of_suc-le-suc (le_of_suc-le-suc (le_of_suc-le-suc lt)))))

-- a packed byte is told by its pairs
pub packed-same : (f g : ℕ → ℕ) → ((j : ℕ) → j < 4 → f j ≡ g j) → packed f ≡ packed g
unfolding packed
packed-same f g h = omega (arith, h 0 (omega arith), h 1 (omega arith), h 2 (omega arith), h 3 (omega arith))

pub packed_of_pairs : (x : ℕ) → x < 256 → packed (pair_of x) ≡ x
packed_of_pairs x h = same-below 256 (λ k. packed (pair_of k)) (λ k. k) (unfold packed pair_of in tt) x h

-- the pair at j, by the code's shift and mask
pub shifted_pair : (x j : ℕ) → x < 256 → j < 4 → bit_and (x / 2 ^ (6 - 2 * j)) 3 ≡ pair_of x j
unfolding pair_of
shifted_pair x j h k = same_below₂ 256 4 (λ a b. bit_and (a / 2 ^ (6 - 2 * b)) 3) pair_of tt x j h k
