-- Bytes in one number, the first one lowest: a test or a mask on the number is one on each byte, since no byte carries into the next.
-- What `by_eight` asks of eight writes: is a start pulse among them, and how often does P15 rise.
use mathlib.Core.Path.{◌≡◌, refl, sym, ap, ap₂, ◌∙◌}
use mathlib.Core.Bool.{Bool, true, false, cond}
use mathlib.Core.List.{List, [], ◌∷◌}
use Prim.Native.Nat.{ℕ, zero, suc, ◌+◌, ◌-◌, ◌*◌, ◌/◌, ◌%◌, ◌<◌, ◌≤◌}
use native.Mathlib.Nat.{mod-lt, add-zero}
use native.Mathlib.Omega.{arith}
use lib.Dec.{eqb, lit<, lit≤}
use lib.Bits.{bit_and, and_zero_r, and_mask, and_high, and_le_r, and_block}
use lib.ListN.{length, get_or}
use Rattle.bits.specs.Bit.{bit_of}
use Rattle.bits.proofs.Folds.{Folds, folded}
use Rattle.receiver.specs.Lines.{p15_high}
use Rattle.receiver.proofs.Rises.{rises_at}
use Rattle.receiver_polling.proofs.Waits.{stays-high, risen-by}

unfoldable pub num : List ℕ → ℕ
num [] = 0
num (d ∷ ds) = num ds * 256 + d

-- the same byte in each place of n
unfoldable pub same : ℕ → ℕ → ℕ
same zero m = 0
same (suc n) m = same n m * 256 + m

abbrev pub Small : List ℕ → Type 0
Small ds = (j : ℕ) → get_or ds j 0 < 256

-- ---- no start pulse

pub data Calm : List ℕ → Type 0 where
  calm_none : Calm []
  calm_more : {d : ℕ} {ds : List ℕ} → (bit_and d 0x30 ≡ 0 → ⊥) → Calm ds → Calm (d ∷ ds)

-- two numbers by their last bytes
bytes_equal : (a b r s : ℕ) → r < 256 → s < 256 → a * 256 + r ≡ b * 256 + s → (a ≡ b) × (r ≡ s)
bytes_equal a b r s h k e = (omega arith, omega arith)

-- 70 hex carries every line into bit 7
calm-byte : (d : ℕ) → bit_and (bit_and d 0x30 + 0x70) 0x80 ≡ 0x80 → bit_and d 0x30 ≡ 0 → ⊥
calm-byte d e z = let f : ◌≡◌ {A = ℕ} 0 0x80 = rw z at e in absurd (omega arith)

pub calm : (ds : List ℕ) → Small ds
    → bit_and (bit_and (num ds) (same (length ds) 0x30) + same (length ds) 0x70) (same (length ds) 0x80) ≡ same (length ds) 0x80 → Calm ds
unfolding num same
calm [] h e = calm_none
calm (d ∷ ds) h e =
    let n : ℕ = length ds in
    let a : ℕ = bit_and (num ds) (same n 0x30) in
    let r : ℕ = bit_and d 0x30 in
    let low : r ≤ 0x30 = and_le_r d 0x30 in
    let sum : bit_and (num ds * 256 + d) (same n 0x30 * 256 + 0x30) + (same n 0x70 * 256 + 0x70) ≡ (a + same n 0x70) * 256 + (r + 0x70) =
    ap (λ (y : ℕ). y + (same n 0x70 * 256 + 0x70)) (and_block 8 (num ds) (same n 0x30) d 0x30 (h 0) (lit< tt)) ∙ omega arith in
    let split = ap (λ (y : ℕ). bit_and y (same n 0x80 * 256 + 0x80)) sum
    ∙ and_block 8 (a + same n 0x70) (same n 0x80) (r + 0x70) 0x80 (omega arith) (lit< tt) in
    let both = bytes_equal (bit_and (a + same n 0x70) (same n 0x80)) (same n 0x80) (bit_and (r + 0x70) 0x80) 0x80
    (omega (arith, and_le_r (r + 0x70) 0x80)) (lit< tt) (sym split ∙ e) in
    calm_more (calm-byte d both.1) (calm ds (λ (j : ℕ). h (suc j)) both.0)

-- ---- P15, a byte for each write: bit 5

abbrev pub bit5 : ℕ → ℕ
bit5 d = d / 32 % 2

unfoldable pub highs : List ℕ → ℕ
highs [] = 0
highs (d ∷ ds) = highs ds * 256 + bit5 d

pub high_bits : (ds : List ℕ) → Small ds → bit_and (num ds) (same (length ds) 0x20) ≡ highs ds * 32
unfolding num same highs
high_bits [] h = refl
high_bits (d ∷ ds) h =
    and_block 8 (num ds) (same (length ds) 0x20) d 0x20 (h 0) (lit< tt)
    ∙ ap₂ (λ (y z : ℕ). y * 256 + z) (high_bits ds (λ (j : ℕ). h (suc j))) (and_high d 1 5)
    ∙ omega arith

-- how many are high
unfoldable pub how_many : List ℕ → ℕ
how_many [] = 0
how_many (d ∷ ds) = bit5 d + how_many ds

-- 1 if P15 is high at a write and was before it
unfoldable pub stays : Bool → ℕ → ℕ
stays was d = cond was (bit5 d) 0

-- how many are high as the one before them is
unfoldable pub held : List ℕ → ℕ
held [] = 0
held (d ∷ []) = 0
held (d ∷ e ∷ ds) = stays (p15_high d) e + held (e ∷ ds)

-- 256 is 1 modulo 255
fold_more : (x n b : ℕ) → Folds 255 x n → Folds 255 (x * 256 + b) (b + n)
fold_more x n b f = record { times = n + f.times * 256; is = omega (arith, f.is) }

fold-highs : (ds : List ℕ) → Folds 255 (highs ds) (how_many ds)
unfolding highs how_many
fold-highs [] = record { times = 0; is = refl }
fold-highs (d ∷ ds) = fold_more (highs ds) (how_many ds) (bit5 d) (fold-highs ds)

meets : (b c : ℕ) → b < 2 → c < 2 → bit_and b c ≡ cond (eqb b 1) c 0
meets zero zero h k = refl
meets zero (suc zero) h k = refl
meets (suc zero) zero h k = refl
meets (suc zero) (suc zero) h k = refl
meets (suc (suc b)) c h k = absurd (omega arith)
meets zero (suc (suc c)) h k = absurd (omega arith)
meets (suc zero) (suc (suc c)) h k = absurd (omega arith)

small5 : (d : ℕ) → bit5 d < 2
small5 d = mod-lt (d / 32) (lit< tt)

fold-held : (ds : List ℕ) → Folds 255 (bit_and (highs ds) (highs ds / 256)) (held ds)
unfolding highs held stays p15_high bit_of
fold-held [] = record { times = 0; is = refl }
fold-held (d ∷ []) =
    let z : (0 * 256 + bit5 d) / 256 ≡ 0 = omega arith in
    record { times = 0; is = ap (bit_and (0 * 256 + bit5 d)) z ∙ and_zero_r (0 * 256 + bit5 d) }
fold-held (d ∷ e ∷ ds) =
    let H : ℕ = highs ds * 256 + bit5 e in
    let up : (H * 256 + bit5 d) / 256 ≡ H = omega arith in
    let next : highs ds ≡ H / 256 = omega arith in
    let split : bit_and (H * 256 + bit5 d) ((H * 256 + bit5 d) / 256) ≡ bit_and H (H / 256) * 256 + stays (p15_high d) e =
    ap (bit_and (H * 256 + bit5 d)) up
    ∙ and_block 8 H (highs ds) (bit5 d) (bit5 e) (omega arith) (omega arith)
    ∙ ap₂ (λ (y z : ℕ). bit_and H y * 256 + z) next (meets (bit5 d) (bit5 e) (small5 d) (small5 e)) in
    let f = fold_more (bit_and H (H / 256)) (held (e ∷ ds)) (stays (p15_high d) e) (fold-held (e ∷ ds)) in
    record { times = f.times; is = split ∙ f.is }

-- ---- the rises

unfoldable pub rose : Bool → List ℕ → ℕ
rose was [] = 0
rose was (d ∷ ds) = rises_at was d + rose (p15_high d) ds

-- high now: it rose, or it was high
one_of : (was : Bool) (d : ℕ) → rises_at was d + stays was d ≡ bit5 d
unfolding stays
one_of true d = ap (λ (n : ℕ). n + bit5 d) (stays-high d) ∙ omega arith
one_of false d = ap (λ (n : ℕ). n + 0) (risen-by d) ∙ add-zero (bit5 d)

pub all_told : (was : Bool) (d : ℕ) (ds : List ℕ) → rose was (d ∷ ds) + held (d ∷ ds) + stays was d ≡ how_many (d ∷ ds)
unfolding rose held how_many
all_told was d [] = omega (arith, one_of was d)
all_told was d (e ∷ ds) = omega (arith, one_of was d, all_told (p15_high d) e ds)

few : (ds : List ℕ) → how_many ds ≤ length ds
unfolding how_many
few [] = lit≤ tt
few (d ∷ ds) = omega (arith, few ds, small5 d)

-- what the code counts
pub rises-counted : (was : Bool) (d : ℕ) (ds : List ℕ) → length (d ∷ ds) < 255
    → highs (d ∷ ds) % 255 - bit_and (highs (d ∷ ds)) (highs (d ∷ ds) / 256) % 255 - stays was d ≡ rose was (d ∷ ds)
rises-counted was d ds h =
    let all : List ℕ = d ∷ ds in
    let t = all_told was d ds in
    let l = few all in
    let a = folded 255 (highs all) (how_many all) (fold-highs all) (omega arith) in
    let b = folded 255 (bit_and (highs all) (highs all / 256)) (held all) (fold-held all) (omega arith) in
    ap₂ (λ (y z : ℕ). y - z - stays was d) a b ∙ omega arith

pub enough : (was : Bool) (d : ℕ) (ds : List ℕ) → length (d ∷ ds) < 255
    → bit_and (highs (d ∷ ds)) (highs (d ∷ ds) / 256) % 255 + stays was d ≤ highs (d ∷ ds) % 255
enough was d ds h =
    let all : List ℕ = d ∷ ds in
    let t = all_told was d ds in
    let l = few all in
    let a = folded 255 (highs all) (how_many all) (fold-highs all) (omega arith) in
    let b = folded 255 (bit_and (highs all) (highs all / 256)) (held all) (fold-held all) (omega arith) in
    omega arith

-- the first one, with what was before it
pub first : (was : Bool) (d : ℕ) (ds : List ℕ) → bit_and (highs (d ∷ ds)) (cond was 1 0) ≡ stays was d
unfolding highs stays
first true d ds = and_mask (highs ds * 256 + bit5 d) 1 ∙ omega (arith, small5 d)
first false d ds = and_zero_r (highs ds * 256 + bit5 d)

pub rises-few : (was : Bool) (d : ℕ) (ds : List ℕ) → rose was (d ∷ ds) ≤ length (d ∷ ds)
rises-few was d ds = omega (arith, all_told was d ds, few (d ∷ ds))
