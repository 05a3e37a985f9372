-- The plane bytes: a byte is told by its eight bits, two halves make one, and the planes give each pixel back, packed too.
use mathlib.Core.Path.{◌≡◌, ap, ◌∙◌}
use mathlib.Core.Bool.{cond}
use Prim.Native.Nat.{ℕ, zero, suc, ◌+◌, ◌-◌, ◌*◌, ◌/◌, ◌%◌, ◌^◌, ◌<◌}
use native.Mathlib.Nat.{mod-eq_of_lt, zero-div}
use native.Mathlib.Omega.{arith}
use lib.Bits.{bit_and, bit_or, or_shifted}
use lib.Dec.{eqb}
use Rattle.bits.specs.Bit.{bit_at}
use Rattle.bits.specs.Pair.{pair_of, packed}
use Rattle.bits.specs.Plane.{byte_of, shade_of, plane_of, nibble_of, shade_by, four_of, spread_of}
use Rattle.bits.proofs.Every.{same-below, same_below₂}
use Rattle.bits.proofs.Pairs.{pair_lt}

pub bit-lt : (k n : ℕ) → bit_at k n < 2
unfolding bit_at
bit-lt k n = omega arith

-- what `squeeze` computes, at every byte
abbrev neighbours : ℕ → ℕ
neighbours x = bit_and (bit_or (bit_and x 85 / 2) (bit_and x 85)) 51

abbrev squeezed : ℕ → ℕ
squeezed x = bit_and (bit_or (neighbours x / 4) (neighbours x)) 15

pub squeeze_is : (x : ℕ) → x < 256 → squeezed x ≡ nibble_of 0 x
unfolding nibble_of bit_at pair_of
squeeze_is x h = same-below 256 squeezed (nibble_of 0) tt x h

-- the high bits stand one place above the low ones
pub nibble-half : (x : ℕ) → x < 256 → nibble_of 0 (x / 2) ≡ nibble_of 1 x
unfolding nibble_of bit_at pair_of
nibble-half x h = same-below 256 (λ k. nibble_of 0 (k / 2)) (nibble_of 1) tt x h

pub nibble-lt : (p x : ℕ) → nibble_of p x < 16
unfolding nibble_of
nibble-lt p x = omega (arith, bit-lt p (pair_of x 0), bit-lt p (pair_of x 1), bit-lt p (pair_of x 2), bit-lt p (pair_of x 3))

-- two halves make a plane byte, whichever plane it is
pub plane-halves : (p a b m n : ℕ) → m ≡ nibble_of p a → n ≡ nibble_of p b → bit_or (m * 16 % 256) n ≡ plane_of p a b
unfolding plane_of byte_of shade_of nibble_of
plane-halves p a b m n e f =
    let hm : m < 16 = omega (arith, nibble-lt p a) in
    let hn : n < 16 = omega (arith, nibble-lt p b) in
    let h : m * 16 < 256 = omega arith in
    ap (λ (k : ℕ). bit_or k n) (mod-eq_of_lt h) ∙ or_shifted m 4 n hn ∙ omega arith

-- a byte and its eight bits tell each other
pub bit_of-byte : (f : ℕ → ℕ) → ((i : ℕ) → f i < 2) → (j : ℕ) → j < 8 → bit_at (7 - j) (byte_of f) ≡ f j
unfolding byte_of bit_at
bit_of-byte f h zero lt = omega (arith, h 0, h 1, h 2, h 3, h 4, h 5, h 6, h 7)
bit_of-byte f h (suc zero) lt = omega (arith, h 0, h 1, h 2, h 3, h 4, h 5, h 6, h 7)
bit_of-byte f h (suc (suc zero)) lt = omega (arith, h 0, h 1, h 2, h 3, h 4, h 5, h 6, h 7)
bit_of-byte f h (suc (suc (suc zero))) lt = omega (arith, h 0, h 1, h 2, h 3, h 4, h 5, h 6, h 7)
bit_of-byte f h (suc (suc (suc (suc zero)))) lt = omega (arith, h 0, h 1, h 2, h 3, h 4, h 5, h 6, h 7)
bit_of-byte f h (suc (suc (suc (suc (suc zero))))) lt = omega (arith, h 0, h 1, h 2, h 3, h 4, h 5, h 6, h 7)
bit_of-byte f h (suc (suc (suc (suc (suc (suc zero)))))) lt = omega (arith, h 0, h 1, h 2, h 3, h 4, h 5, h 6, h 7)
bit_of-byte f h (suc (suc (suc (suc (suc (suc (suc zero))))))) lt = omega (arith, h 0, h 1, h 2, h 3, h 4, h 5, h 6, h 7)
bit_of-byte f h (suc (suc (suc (suc (suc (suc (suc (suc j)))))))) lt = omega arith

-- a byte of eight bits is told by its bits
pub byte-same : (f g : ℕ → ℕ) → f 0 ≡ g 0 → f 1 ≡ g 1 → f 2 ≡ g 2 → f 3 ≡ g 3 → f 4 ≡ g 4 → f 5 ≡ g 5 → f 6 ≡ g 6 → f 7 ≡ g 7 → byte_of f ≡ byte_of g
unfolding byte_of
byte-same f g e0 e1 e2 e3 e4 e5 e6 e7 = λ i. e0 i * 128 + e1 i * 64 + e2 i * 32 + e3 i * 16 + e4 i * 8 + e5 i * 4 + e6 i * 2 + e7 i

pub byte_of-bits : (x : ℕ) → x < 256 → byte_of (λ j. bit_at (7 - j) x) ≡ x
unfolding byte_of bit_at
byte_of-bits x h = same-below 256 (λ k. byte_of (λ j. bit_at (7 - j) k)) (λ k. k) tt x h

-- a shade is told by its two bits
pub both_bits : (v : ℕ) → v < 4 → bit_at 0 v + 2 * bit_at 1 v ≡ v
unfolding bit_at
both_bits v lt = omega arith

pub shade-by-lt : (low high j : ℕ) → shade_by low high j < 4
unfolding shade_by
shade-by-lt low high j = omega (arith, bit-lt (7 - j) low, bit-lt (7 - j) high)

-- planes without a bit are shade 0
pub no_shade : (j : ℕ) → shade_by 0 0 j ≡ 0
unfolding shade_by bit_at
no_shade j = omega (arith, div-zero)
  where
    div-zero : 0 / 2 ^ (7 - j) ≡ 0
    div-zero = zero-div (2 ^ (7 - j))

-- each plane has its bit of a shade
pub bit_of_shade : (p low high j : ℕ) → p < 2 → bit_at p (shade_by low high j) ≡ bit_at (7 - j) (cond (eqb p 0) low high)
unfolding shade_by
bit_of_shade zero low high j h = low_bit (bit_at (7 - j) low) (bit_at (7 - j) high) (bit-lt (7 - j) low)
  where
    low_bit : (a b : ℕ) → a < 2 → bit_at 0 (a + 2 * b) ≡ a
    low_bit a b h = unfold bit_at in omega arith
bit_of_shade (suc zero) low high j h = high_bit (bit_at (7 - j) low) (bit_at (7 - j) high) (bit-lt (7 - j) low) (bit-lt (7 - j) high)
  where
    high_bit : (a b : ℕ) → a < 2 → b < 2 → bit_at 1 (a + 2 * b) ≡ b
    high_bit a b h k = unfold bit_at in omega arith
bit_of_shade (suc (suc p)) low high j h = absurd (omega arith)

-- the two planes of eight shades give each of them back
pub shade_of-bytes : (f : ℕ → ℕ) → ((i : ℕ) → f i < 4) → (j : ℕ) → j < 8 → shade_by (byte_of (λ i. bit_at 0 (f i))) (byte_of (λ i. bit_at 1 (f i))) j ≡ f j
unfolding shade_by
shade_of-bytes f h j lt =
    rw (bit_of-byte (λ i. bit_at 0 (f i)) (λ i. bit-lt 0 (f i)) j lt, bit_of-byte (λ i. bit_at 1 (f i)) (λ i. bit-lt 1 (f i)) j lt) (both_bits (f j) (h j))

pub shade_of_planes : (a b j : ℕ) → j < 8 → shade_by (plane_of 0 a b) (plane_of 1 a b) j ≡ shade_of a b j
unfolding plane_of
shade_of_planes a b j h = shade_of-bytes (shade_of a b) (λ i. unfold shade_of in pair_lt _ _) j h

-- ---- back: two plane bytes as packed pixels

-- what `spread` computes, at every byte
abbrev halves : ℕ → ℕ
halves x = bit_and (bit_or (bit_and x 15 * 4 % 256) (bit_and x 15)) 51

abbrev parted : ℕ → ℕ
parted x = bit_and (bit_or (halves x * 2 % 256) (halves x)) 85

pub spread_is : (x : ℕ) → x < 256 → parted x ≡ spread_of x
unfolding spread_of packed bit_at
spread_is x h = same-below 256 parted spread_of tt x h

-- only the low four bits count
spread-low : (x : ℕ) → x < 256 → spread_of x ≡ spread_of (x % 16)
unfolding spread_of packed bit_at
spread-low x h = same-below 256 spread_of (λ k. spread_of (k % 16)) tt x h

-- in the low bits of the pairs one number, in the high bits another: tried at all that four bits hold
pub spread-both : (low high : ℕ) → low < 256 → high < 256 → bit_or (spread_of high * 2 % 256) (spread_of low) ≡ spread_of low + 2 * spread_of high
spread-both low high hl hh =
    let l : low % 16 < 16 = omega arith in
    let h : high % 16 < 16 = omega arith in
    rw (spread-low low hl, spread-low high hh) (tried (high % 16) (low % 16) h l)
  where
    tried : (h l : ℕ) → h < 16 → l < 16 → bit_or (spread_of h * 2 % 256) (spread_of l) ≡ spread_of l + 2 * spread_of h
    tried h l hh hl = same_below₂ 16 16 (λ h l. bit_or (spread_of h * 2 % 256) (spread_of l)) (λ h l. spread_of l + 2 * spread_of h) (unfold spread_of packed bit_at in tt) h l hh hl

-- the left four pixels are the high half of each plane byte
left_shade : (low high : ℕ) (j : ℕ) → j < 4 → shade_by low high j ≡ bit_at (3 - j) (low / 16) + 2 * bit_at (3 - j) (high / 16)
unfolding shade_by bit_at
left_shade low high zero h = omega arith
left_shade low high (suc zero) h = omega arith
left_shade low high (suc (suc zero)) h = omega arith
left_shade low high (suc (suc (suc zero))) h = omega arith
left_shade low high (suc (suc (suc (suc j)))) h = absurd (omega arith)

pub left_is : (low high m n : ℕ) → low < 256 → high < 256 → m ≡ spread_of (high / 16) → n ≡ spread_of (low / 16) → bit_or (m * 2 % 256) n ≡ four_of 0 low high
left_is low high m n hl hh e f =
    let s = left_shade low high in
    rw (e, f)
    (spread-both (low / 16) (high / 16) (omega arith) (omega arith)
    ∙ unfold spread_of four_of packed in omega (arith, s 0 (omega arith), s 1 (omega arith), s 2 (omega arith), s 3 (omega arith)))

pub right_is : (low high m n : ℕ) → low < 256 → high < 256 → m ≡ spread_of high → n ≡ spread_of low → bit_or (m * 2 % 256) n ≡ four_of 1 low high
right_is low high m n hl hh e f = rw (e, f) (spread-both low high hl hh ∙ unfold spread_of four_of shade_by packed bit_at in omega arith)
