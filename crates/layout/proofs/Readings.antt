-- V1 and V5 (RULES 1.6 and 1.10) in plain numbers, both ways: what is asked of a block's bytes is just what the test says. And V3's fields are
-- the ones that a block loads as.
use mathlib.Core.Path.{◌≡◌, refl, sym, ap, ◌∙◌}
use mathlib.Core.Bool.{Bool, true, false, false≢true, not-eq-not}
use mathlib.Core.List.{List}
use Prim.Native.Nat.{ℕ, zero, suc, ◌+◌, ◌*◌, ◌/◌, ◌%◌, ◌^◌, ◌<◌, ◌≤◌}
use native.Mathlib.Nat.{pow-suc}
use native.Mathlib.Omega.{arith}
use borrow.Author.Tests.{leb-true, le-leb, eqb-true, eq-eqb}
use lib.Bits.{bit_and, and_shr, and_step, and_zero_l}
use lib.Dec.{eqb, leb}
use lib.ListN.{length, length-take}
use lib.Pow.{shr-shr}
use Rattle.bits.specs.Bit.{bit_of}
use Rattle.bits.specs.Over.{part}
use Rattle.bits.specs.Zero.{zeros}
use Rattle.bits.proofs.Overs.{get_or-part}
use Rattle.bits.proofs.Tests.{and_both, either}
use Rattle.bits.proofs.Zeros.{zeros_at, all-zeros, replicate-zeros}
use Rattle.parts.specs.Parts.{mask_at, index_at, pads_at, preset_on_at, preset_at, preset_bytes}
use Rattle.layout.specs.Block.{byte, load}
use Rattle.layout.specs.Valid.{v1, receiver_in, store_in, v5, valid}
use Rattle.layout.proofs.Saved.{clauses}

-- ---- V1

-- no bit of i is outside p: each bit that is set in i is set in p
abbrev pub NoBitOutside : ℕ → ℕ → Type 0
NoBitOutside i p = (k : ℕ) → bit_of k i ≡ true → bit_of k p ≡ true

low_bit : (a b : ℕ) → bit_and a b ≡ a → a % 2 ≡ 1 → b % 2 ≡ 1
low_bit a b e h = omega (arith, and_step a b)

and_no_bit : (i p : ℕ) → bit_and i p ≡ i → NoBitOutside i p
unfolding bit_of
and_no_bit i p e k h =
    let s : bit_and (i / 2 ^ k) (p / 2 ^ k) ≡ i / 2 ^ k = sym (and_shr i p k) ∙ ap (λ (n : ℕ). n / 2 ^ k) e in
    eq-eqb (p / 2 ^ k % 2) 1 (low_bit (i / 2 ^ k) (p / 2 ^ k) s (eqb-true (i / 2 ^ k % 2) 1 h))

half : (i p : ℕ) → NoBitOutside i p → NoBitOutside (i / 2) (p / 2)
unfolding bit_of
half i p h k e = ap (λ (n : ℕ). eqb (n % 2) 1) (shr-shr p 1 k) ∙ h (1 + k) (sym (ap (λ (n : ℕ). eqb (n % 2) 1) (shr-shr i 1 k)) ∙ e)

first_bit : (i p : ℕ) → NoBitOutside i p → i % 2 ≤ p % 2
unfolding bit_of
first_bit i p h = go (i % 2) refl
  where
    go : (q : ℕ) → i % 2 ≡ q → q ≤ p % 2
    go zero e = omega arith
    go (suc zero) e = let z : i / 1 % 2 ≡ 1 = omega arith in omega (arith, eqb-true (p / 1 % 2) 1 (h 0 (eq-eqb (i / 1 % 2) 1 z)))
    go (suc (suc q)) e = omega arith

no_bit-and : (n i p : ℕ) → i < 2 ^ n → NoBitOutside i p → bit_and i p ≡ i
no_bit-and zero i p l h = let z : i ≡ 0 = omega arith in rw z (and_zero_l p)
no_bit-and (suc n) i p l h =
    let d : 2 ^ suc n ≡ 2 ^ n * 2 = pow-suc 2 n in
    let r : bit_and (i / 2) (p / 2) ≡ i / 2 = no_bit-and n (i / 2) (p / 2) (omega arith) (half i p h) in
    omega (arith, and_step i p, first_bit i p h)

below_power : (n : ℕ) → n < 2 ^ n
below_power zero = omega arith
below_power (suc n) = let d : 2 ^ suc n ≡ 2 ^ n * 2 = pow-suc 2 n in omega (arith, below_power n)

-- the mask mode and the joypad mask are at most 3, and the joypad index has no bit outside the joypad mask
pub record V1 (b : List ℕ) : Type 0 where
  pub mask : byte mask_at b ≤ 3
  pub pads : byte pads_at b ≤ 3
  pub index : NoBitOutside (byte index_at b) (byte pads_at b)

pub v1_says : (b : List ℕ) → v1 b ≡ true → V1 b
unfolding v1
v1_says b e =
    let p = and_both (leb (byte mask_at b) 3) _ e in
    let q = and_both (leb (byte pads_at b) 3) (eqb (bit_and (byte index_at b) (byte pads_at b)) (byte index_at b)) p.1 in
    record {
      mask = leb-true (byte mask_at b) 3 p.0;
      pads = leb-true (byte pads_at b) 3 q.0;
      index = and_no_bit (byte index_at b) (byte pads_at b) (eqb-true (bit_and (byte index_at b) (byte pads_at b)) (byte index_at b) q.1);
    }

pub v1-true : (b : List ℕ) → V1 b → v1 b ≡ true
unfolding v1
v1-true b v =
    rw (
      le-leb (byte mask_at b) 3 v.mask,
      le-leb (byte pads_at b) 3 v.pads,
      eq-eqb (bit_and (byte index_at b) (byte pads_at b)) (byte index_at b) (no_bit-and (byte index_at b) (byte index_at b) (byte pads_at b) (below_power (byte index_at b)) v.index),
    )

-- ---- V5

-- with byte 9 zero each of the preset's bytes is
abbrev pub V5 : List ℕ → Type 0
V5 b = byte preset_on_at b ≡ 0 → (k : ℕ) → k < preset_bytes → byte (preset_at + k) b ≡ 0

pub v5_says : (b : List ℕ) → v5 b ≡ true → V5 b
unfolding v5
v5_says b e z k h =
    let w : zeros (part preset_at preset_bytes b) ≡ true = rw (eq-eqb (byte preset_on_at b) 0 z) at e in
    sym (get_or-part preset_at preset_bytes b k h) ∙ zeros_at (part preset_at preset_bytes b) w k

pub v5-true : (b : List ℕ) → V5 b → v5 b ≡ true
unfolding v5
v5-true b h = either (λ (t : Bool). t ≡ true) (eqb (byte preset_on_at b) 0) (λ e. empty (h (eqb-true (byte preset_on_at b) 0 e))) (λ e. refl)
  where
    l : List ℕ
    l = part preset_at preset_bytes b

    short : length l ≤ preset_bytes
    short = simp length-take (omega arith)

    empty : ((k : ℕ) → k < preset_bytes → byte (preset_at + k) b ≡ 0) → zeros l ≡ true
    empty f =
        ap zeros (all-zeros l (λ k lt. let m : k < preset_bytes = omega (arith, short) in get_or-part preset_at preset_bytes b k m ∙ f k m))
        ∙ replicate-zeros (length l)

-- ---- so these blocks are not valid

module _ (b : List ℕ) where
  -- a mask mode or a joypad mask over 3
  pub mask-over-3 : 3 < byte mask_at b → valid b ≡ false
  mask-over-3 h = not-eq-not.0 (λ e. omega (arith, (v1_says b (clauses b e).one).mask))

  pub pads-over-3 : 3 < byte pads_at b → valid b ≡ false
  pads-over-3 h = not-eq-not.0 (λ e. omega (arith, (v1_says b (clauses b e).one).pads))

  -- a bit of the joypad index that the joypad mask lacks
  pub index-outside : (k : ℕ) → bit_of k (byte index_at b) ≡ true → bit_of k (byte pads_at b) ≡ false → valid b ≡ false
  index-outside k i p = not-eq-not.0 (λ e. false≢true (sym p ∙ (v1_says b (clauses b e).one).index k i))

  -- a byte of a preset that is not in force
  pub preset-left : byte preset_on_at b ≡ 0 → (k : ℕ) → k < preset_bytes → (byte (preset_at + k) b ≡ 0 → ⊥) → valid b ≡ false
  preset-left z k h f = not-eq-not.0 (λ e. f (v5_says b (clauses b e).five z k h))

-- ---- V3's fields

pub v3-fields : (b : List ℕ) → ((load b).port.rx ≡ receiver_in b) × ((load b).port.store ≡ store_in b)
unfolding load
v3-fields b = (refl, refl)
