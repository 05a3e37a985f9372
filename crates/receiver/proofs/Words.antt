-- A packet in two words is one number, since a word shifted by 64 leaves the low 64 bits free; a data bit adds its power of two, and a
-- byte of a word is a byte of the number.
use mathlib.Core.Path.{◌≡◌, refl, sym, ap, ◌∙◌}
use Prim.Native.Nat.{ℕ, ◌+◌, zero, suc, ◌-◌, ◌*◌, ◌/◌, ◌%◌, ◌^◌, ◌<◌, ◌≤◌}
use native.Mathlib.Nat.{div-one, not-suc-le-zero, le_of_suc-le-suc, mul_assoc}
use native.Mathlib.Omega.{arith}
use lib.ListN.{length, get_or}
use lib.Pow.{shl_exact, pow_mono, pow-add, shr-shr, field, mod-mod-pow, high, low}
use lib.Bits.{bit_and, bit_or, and_mask, or_shifted_r}
use Rattle.receiver.specs.Receive.{words}
use Rattle.receiver.specs.Store.{bytes_of}

-- a data bit in the low word, and in the high one
pub low_bit : (lo hi n b : ℕ) → n < 64 → b < 2 → words lo hi < 2 ^ n
    → words (bit_or lo ((b * 2 ^ n) % 18446744073709551616)) hi ≡ words lo hi + b * 2 ^ n
low_bit lo hi n b h hb hp =
    let top : 2 ^ n ≤ 9223372036854775808 = pow_mono {i = n} {j = 63} (omega arith) in
    let below : lo < 2 ^ n = omega arith in
    let e : bit_or lo ((b * 2 ^ n) % 18446744073709551616) ≡ b * 2 ^ n + lo =
    ap (bit_or lo) (shl_exact 1 n 64 hb (omega arith)) ∙ or_shifted_r b n lo below in
    rw e (omega arith)

pub high_bit : (lo hi n b : ℕ) → 64 ≤ n → n < 128 → b < 2 → words lo hi < 2 ^ n
    → words lo (bit_or hi ((b * 2 ^ (n - 64)) % 18446744073709551616)) ≡ words lo hi + b * 2 ^ n
high_bit lo hi n b h k hb hp =
    let m : ℕ = n - 64 in
    let s : m + 64 ≡ n = omega arith in
    let p : 2 ^ n ≡ 2 ^ m * 18446744073709551616 = ap (λ (j : ℕ). 2 ^ j) (sym s) ∙ pow-add 2 m 64 in
    let below : hi < 2 ^ m = omega arith in
    let e : bit_or hi ((b * 2 ^ m) % 18446744073709551616) ≡ b * 2 ^ m + hi =
    ap (bit_or hi) (shl_exact 1 m 64 hb (omega arith)) ∙ or_shifted_r b m hi below in
    let q : b * 2 ^ n ≡ b * 2 ^ m * 18446744073709551616 = ap (λ (j : ℕ). b * j) p ∙ sym (mul_assoc b (2 ^ m) 18446744073709551616) in
    rw e (omega arith)

-- byte i of a number
pub byte_of : (n x i : ℕ) → i < n → get_or (bytes_of n x) i 0 ≡ x / 2 ^ (8 * i) % 256
unfolding bytes_of
byte_of zero x i h = absurd (not-suc-le-zero h)
byte_of (suc n) x zero h = ap (λ (y : ℕ). y % 256) (sym (div-one x))
byte_of (suc n) x (suc i) h =
    let e : 8 + 8 * i ≡ 8 * suc i = omega arith in
    byte_of n (x / 256) i (le_of_suc-le-suc h)
    ∙ ap (λ (y : ℕ). y % 256) (shr-shr x 8 (8 * i) ∙ ap (λ (j : ℕ). x / 2 ^ j) e)

pub length-bytes : (n x : ℕ) → length (bytes_of n x) ≡ n
unfolding bytes_of
length-bytes zero x = refl
length-bytes (suc n) x = ap suc (length-bytes n (x / 256))

-- of two words
pub low_byte : (lo hi i : ℕ) → lo < 18446744073709551616 → i < 8 → bit_and (lo / 2 ^ (8 * i)) 255 ≡ get_or (bytes_of 16 (words lo hi)) i 0
low_byte lo hi i hl h =
    let w : ℕ = words lo hi in
    let k : ℕ = 8 * i in
    let j : ℕ = 56 - 8 * i in
    let s : j + (8 + k) ≡ 64 = omega arith in
    let cut : lo % 2 ^ (8 + k) ≡ w % 2 ^ (8 + k) =
    ap (λ (y : ℕ). y % 2 ^ (8 + k)) (sym (low hi 64 {lo = lo} hl))
    ∙ ap (λ (t : ℕ). w % 2 ^ t % 2 ^ (8 + k)) (sym s) ∙ mod-mod-pow w j (8 + k) in
    and_mask (lo / 2 ^ k) 8 ∙ sym (field lo 8 k) ∙ ap (λ (y : ℕ). y / 2 ^ k) cut ∙ field w 8 k
    ∙ sym (byte_of 16 w i (omega arith))

pub byte_in_high : (lo hi i : ℕ) → lo < 18446744073709551616 → 8 ≤ i → i < 16
    → bit_and (hi / 2 ^ (8 * (i - 8))) 255 ≡ get_or (bytes_of 16 (words lo hi)) i 0
byte_in_high lo hi i hl g h =
    let w : ℕ = words lo hi in
    let k : ℕ = 8 * (i - 8) in
    let s : 64 + k ≡ 8 * i = omega arith in
    and_mask (hi / 2 ^ k) 8
    ∙ ap (λ (y : ℕ). y / 2 ^ k % 256) (sym (high hi 64 {lo = lo} hl))
    ∙ ap (λ (y : ℕ). y % 256) (shr-shr w 64 k ∙ ap (λ (t : ℕ). w / 2 ^ t) s)
    ∙ sym (byte_of 16 w i h)

pub first_byte : (lo hi : ℕ) → bit_and lo 255 ≡ words lo hi % 256
first_byte lo hi = and_mask lo 8 ∙ omega arith
