-- The tests on numbers that V3 is made of are the code's: a number is below a power of two if nothing is left of it after the shift, and
-- bytes make the number 0 if all are zero.
use mathlib.Core.Path.{◌≡◌, refl, sym, ap, ◌∙◌}
use mathlib.Core.Bool.{Bool, true, ◌&&◌}
use mathlib.Core.List.{List, [], ◌∷◌}
use Prim.Native.Nat.{ℕ, zero, suc, ◌+◌, ◌-◌, ◌*◌, ◌/◌, ◌^◌, ◌<◌, ◌≤◌, zero-le, suc-le-suc}
use native.Mathlib.Omega.{arith}
use borrow.Author.Tests.{ne_eqb, lt-ltb}
use lib.Dec.{eqb, ltb}
use lib.ListN.{length, get_or}
use lib.Pow.{are_bytes, pow-add}
use Rattle.bits.specs.Over.{part}
use Rattle.bits.specs.Zero.{zeros}
use Rattle.bits.proofs.Masks.{shifted_out}
use Rattle.bits.proofs.Overs.{length_part, get_or-part}
use Rattle.bits.proofs.Tests.{same-ltb}
use Rattle.layout.specs.Block.{value_of}
use Rattle.receiver.specs.Receive.{words}

are-bytes : (l : List ℕ) → ((k : ℕ) → k < length l → get_or l k 0 < 256) → are_bytes l ≡ true
are-bytes [] h = refl
are-bytes (x ∷ l) h = rw (lt-ltb x 256 (h 0 (suc-le-suc zero-le))) (are-bytes l (λ k lt. h (suc k) (suc-le-suc lt)))

pub part_bytes : (b : List ℕ) (at n : ℕ) → ((i : ℕ) → get_or b i 0 < 256) → at + n ≤ length b → are_bytes (part at n b) ≡ true
part_bytes b at n h g =
    are-bytes (part at n b) (λ k lt. let l : k < n = omega (arith, length_part at n b g) in rw (get_or-part at n b k l) (h (at + k)))

pub zero-value : (l : List ℕ) → zeros l ≡ eqb (value_of l) 0
unfolding zeros value_of
zero-value [] = refl
zero-value (x ∷ l) = ap (λ (b : Bool). eqb x 0 && b) (zero-value l) ∙ both x (value_of l)
  where
    both : (a v : ℕ) → (eqb a 0 && eqb v 0) ≡ eqb (a + 256 * v) 0
    both zero zero = refl
    both zero (suc v) = ne_eqb (suc v) 0 (λ e. omega arith) ∙ sym (ne_eqb (0 + 256 * suc v) 0 (λ e. omega arith))
    both (suc a) v = ap (λ (b : Bool). b && eqb v 0) (ne_eqb (suc a) 0 (λ e. omega arith)) ∙ sym (ne_eqb (suc a + 256 * v) 0 (λ e. omega arith))

-- ---- a packet in two words, against 2 ^ n

pub clear-high : (lo hi n : ℕ) → lo < 18446744073709551616 → 64 ≤ n → eqb (hi / 2 ^ (n - 64)) 0 ≡ ltb (words lo hi) (2 ^ n)
clear-high lo hi n h k =
    let s : (n - 64) + 64 ≡ n = omega arith in
    let p : 2 ^ n ≡ 2 ^ (n - 64) * 18446744073709551616 = ap (λ (j : ℕ). 2 ^ j) (sym s) ∙ pow-add 2 (n - 64) 64 in
    shifted_out hi (n - 64) ∙ same-ltb hi (2 ^ (n - 64)) (words lo hi) (2 ^ n) (λ g. omega arith) (λ g. omega arith)

pub clear-low : (lo hi n : ℕ) → hi ≡ 0 → eqb (lo / 2 ^ n) 0 ≡ ltb (words lo hi) (2 ^ n)
clear-low lo hi n e = let w : lo ≡ words lo hi = omega arith in shifted_out lo n ∙ ap (λ (x : ℕ). ltb x (2 ^ n)) w
