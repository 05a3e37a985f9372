-- The joypad index after many rises of P15: rises add up, and under a mask of low bits they are a sum cut to those bits.
use mathlib.Core.Path.{◌≡◌, refl, sym, ap, ◌∙◌}
use Prim.Native.Nat.{ℕ, zero, suc, ◌+◌, ◌-◌, ◌*◌, ◌/◌, ◌%◌, ◌^◌, ◌<◌}
use native.Mathlib.Nat.{add-zero, mod-add-mod}
use native.Mathlib.Numerals.{add-one}
use native.Mathlib.Omega.{arith}
use mathlib.Core.Bool.{Bool, true, false, not, ◌&&◌, cond}
use lib.Bits.{bit_and, and_mask, and_high, and_le_r}
use Rattle.receiver.specs.Lines.{p15_high, indexed}
use Rattle.receiver.specs.Rises.{rises}

-- how often P15 rises at a write of v: `was` is whether it was high before
unfoldable pub rises_at : Bool → ℕ → ℕ
rises_at was v = cond (p15_high v && not was) 1 0

pub rises-add : (n o x mask : ℕ) → rises n (rises o x mask) mask ≡ rises (o + n) x mask
unfolding rises
rises-add zero o x mask = rw (add-zero o)
rises-add (suc n) o x mask =
    let e : suc (o + n) ≡ o + suc n = omega arith in
    ap (λ (y : ℕ). bit_and (y + 1) mask) (rises-add n o x mask) ∙ ap (λ (j : ℕ). rises j x mask) e

pub rises_next : (k x mask : ℕ) → bit_and (rises k x mask + 1) mask ≡ rises (k + 1) x mask
unfolding rises
rises_next k x mask = ap (λ (j : ℕ). rises j x mask) (sym (add-one k))

-- under a mask of the k low bits
rises-mask : (k n x : ℕ) → rises (suc n) x (2 ^ k - 1) ≡ (x + suc n) % 2 ^ k
unfolding rises
rises-mask k zero x = and_mask (x + 1) k
rises-mask k (suc n) x =
    let e : x + suc n + 1 ≡ x + suc (suc n) = omega arith in
    and_mask (rises (suc n) x (2 ^ k - 1) + 1) k
    ∙ ap (λ (y : ℕ). (y + 1) % 2 ^ k) (rises-mask k n x)
    ∙ mod-add-mod (x + suc n) (2 ^ k) 1
    ∙ ap (λ (y : ℕ). y % 2 ^ k) e

pub rises-low : (k n x : ℕ) → (n ≡ 0 → ⊥) → rises n x (2 ^ k - 1) ≡ (x + n) % 2 ^ k
rises-low k zero x f = absurd (f refl)
rises-low k (suc n) x f = rises-mask k n x

-- under 2 the index stays from the first rise on
two-stays : (y : ℕ) → bit_and (bit_and y 2 + 1) 2 ≡ bit_and y 2
two-stays y =
    let e : bit_and y 2 ≡ y / 2 % 2 * 2 = and_high y 1 1 in
    and_high (bit_and y 2 + 1) 1 1 ∙ omega arith

pub rises-two : (n x : ℕ) → (n ≡ 0 → ⊥) → rises n x 2 ≡ bit_and (x + 1) 2
unfolding rises
rises-two zero x f = absurd (f refl)
rises-two (suc zero) x f = refl
rises-two (suc (suc n)) x f =
    ap (λ (y : ℕ). bit_and (y + 1) 2) (rises-two (suc n) x (λ e. omega arith)) ∙ two-stays (x + 1)

-- a write's step is its rise
pub rises-at : (x mask : ℕ) (was : Bool) (v : ℕ) → indexed x mask was v ≡ rises (rises_at was v) x mask
unfolding indexed rises_at rises
rises-at x mask was v = go (p15_high v && not was)
  where
    go : (b : Bool) → cond b (bit_and (x + 1) mask) x ≡ rises (cond b 1 0) x mask
    go true = refl
    go false = refl

pub rises-small : (n x mask : ℕ) → x < 255 → mask < 255 → rises n x mask < 255
unfolding rises
rises-small zero x mask h k = h
rises-small (suc n) x mask h k = omega (arith, and_le_r (rises n x mask + 1) mask)
