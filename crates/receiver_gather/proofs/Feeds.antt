-- Data pulses with their releases: each adds its bit and, if it is a one, lets P15 rise once; so many of them add their number.
use mathlib.Core.Path.{◌≡◌, refl, sym, ap, ap₂, ◌∙◌}
use mathlib.Core.Bool.{true, false}
use mathlib.Core.List.{List, ◌∷◌}
use Prim.Native.Nat.{ℕ, zero, suc, ◌+◌, ◌*◌, ◌/◌, ◌%◌, ◌^◌, ◌<◌}
use native.Mathlib.Nat.{mul_assoc, mul_comm, add-mul}
use native.Mathlib.Omega.{arith}
use lib.Bits.{bit_and}
use lib.ListN.{length, get_or, drop}
use lib.Pow.{pow-add}
use lib.Seq.{drop-cons}
use borrow.Author.Tests.{lt-ltb, eq-eqb, ne_eqb}
use Rattle.bits.specs.Bit.{bit_of}
use Rattle.receiver.specs.Lines.{p14_high, p15_high, both_high, pulse_by, pulse_of, indexed}
use Rattle.receiver.specs.Rises.{rises}
use Rattle.receiver.specs.Receive.{data_bit, quiet, clocked, when_receiving, pulsed, after_pulse}
use Rattle.receiver.specs.Store.{filed, packets_of}
use Rattle.receiver.proofs.Rises.{rises-add}
use Rattle.receiver_run.specs.Run.{lined, onward, runs}
use Rattle.receiver_gather.specs.Words.{receiving_port, Feeds}

p14-set : (v : ℕ) → v / 16 % 2 ≡ 1 → p14_high v ≡ true
unfolding p14_high bit_of
p14-set v h = eq-eqb (v / 16 % 2) 1 h

p14-clear : (v : ℕ) → v / 16 % 2 ≡ 0 → p14_high v ≡ false
unfolding p14_high bit_of
p14-clear v h = ne_eqb (v / 16 % 2) 1 (λ e. omega arith)

p15-set : (v : ℕ) → v / 32 % 2 ≡ 1 → p15_high v ≡ true
unfolding p15_high bit_of
p15-set v h = eq-eqb (v / 32 % 2) 1 h

p15-clear : (v : ℕ) → v / 32 % 2 ≡ 0 → p15_high v ≡ false
unfolding p15_high bit_of
p15-clear v h = ne_eqb (v / 32 % 2) 1 (λ e. omega arith)

-- a data pulse and its release, of a one and of a zero
module _ (mask i x e r b p : ℕ) (s : List ℕ) (a c : ℕ) (rest : List ℕ) (h : b < 128) (lc : c / 16 % 4 ≡ 3) where
  pair_one : a / 16 % 2 ≡ 1 → a / 32 % 2 ≡ 0
      → runs mask i x (receiving_port e r b p s) (a ∷ c ∷ rest) ≡ runs mask (suc (suc i)) (bit_and (x + 1) mask) (receiving_port e r (b + 1) (p + 1 * 2 ^ b) s) rest
  unfolding runs onward lined packets_of filed after_pulse pulsed when_receiving clocked quiet data_bit indexed pulse_of pulse_by both_high
  pair_one l k = rw (p14-set a l, p15-clear a k, lt-ltb b 128 h, p14-set c (omega arith), p15-set c (omega arith))

  pair-zero : a / 16 % 2 ≡ 0 → a / 32 % 2 ≡ 1
      → runs mask i x (receiving_port e r b p s) (a ∷ c ∷ rest) ≡ runs mask (suc (suc i)) x (receiving_port e r (b + 1) (p + 0 * 2 ^ b) s) rest
  unfolding runs onward lined packets_of filed after_pulse pulsed when_receiving clocked quiet data_bit indexed pulse_of pulse_by both_high
  pair-zero l k = rw (p14-clear a l, p15-set a k, lt-ltb b 128 h, p14-set c (omega arith), p15-set c (omega arith))

  pair : (t : ℕ) → a / 16 % 2 ≡ t → a / 16 % 2 + a / 32 % 2 ≡ 1
      → runs mask i x (receiving_port e r b p s) (a ∷ c ∷ rest) ≡ runs mask (suc (suc i)) (rises t x mask) (receiving_port e r (b + 1) (p + t * 2 ^ b) s) rest
  unfolding rises
  pair zero l k = pair-zero l (omega arith)
  pair (suc zero) l k = pair_one l (omega arith)
  pair (suc (suc t)) l k = absurd (omega arith)

-- the value of the bits from b on: v, and t at n bits further
further : (p v b n t : ℕ) → p + v * 2 ^ b + t * 2 ^ (b + n) ≡ p + (v + t * 2 ^ n) * 2 ^ b
further p v b n t =
    let e : t * 2 ^ (b + n) ≡ t * 2 ^ n * 2 ^ b =
    ap (λ (y : ℕ). t * y) (pow-add 2 b n ∙ mul_comm (2 ^ b) (2 ^ n)) ∙ sym (mul_assoc t (2 ^ n) (2 ^ b))
    in
    let d : (v + t * 2 ^ n) * 2 ^ b ≡ v * 2 ^ b + t * 2 ^ n * 2 ^ b = add-mul v (t * 2 ^ n) (2 ^ b) in
    omega arith

-- ---- no pulse, one, and some after others

pub feeds_none : (ws : List ℕ) → Feeds ws ws 0 0 0
unfolding Feeds rises
feeds_none ws mask i x e r b p s h =
    let at : i ≡ i + 2 * 0 = omega arith in
    let bs : b ≡ b + 0 = omega arith in
    let ps : p ≡ p + 0 * 2 ^ b = omega arith in
    ap₂ (λ (j c : ℕ). runs mask j x (receiving_port e r c p s) ws) at bs ∙ ap (λ (q : ℕ). runs mask (i + 2 * 0) x (receiving_port e r (b + 0) q s) ws) ps

pub feeds-one : (all : List ℕ) (i j k : ℕ) → suc i ≡ j → suc j ≡ k → j < length all
    → get_or all i 0 / 16 % 2 + get_or all i 0 / 32 % 2 ≡ 1 → get_or all j 0 / 16 % 4 ≡ 3
    → Feeds (drop i all) (drop k all) 1 (get_or all i 0 / 16 % 2) (get_or all i 0 / 16 % 2)
unfolding Feeds
feeds-one all i j k next after h l lc mask q x e r b p s hb =
    let a : ℕ = get_or all i 0 in
    let c : ℕ = get_or all j 0 in
    let two : drop i all ≡ a ∷ c ∷ drop k all =
    drop-cons all i 0 (omega arith)
    ∙ ap (λ (y : List ℕ). a ∷ y) (ap (λ (d : ℕ). drop d all) next ∙ drop-cons all j 0 h ∙ ap (λ (d : ℕ). c ∷ drop d all) after) in
    let at : suc (suc q) ≡ q + 2 * 1 = omega arith in
    ap (runs mask q x (receiving_port e r b p s)) two
    ∙ pair mask q x e r b p s a c (drop k all) (omega arith) lc (a / 16 % 2) refl l
    ∙ ap (λ (d : ℕ). runs mask d (rises (a / 16 % 2) x mask) (receiving_port e r (b + 1) (p + a / 16 % 2 * 2 ^ b) s) (drop k all)) at

pub feeds-then : (ws mid rest : List ℕ) (n v o m w q : ℕ) → Feeds ws mid n v o → Feeds mid rest m w q
    → Feeds ws rest (n + m) (v + w * 2 ^ n) (o + q)
unfolding Feeds
feeds-then ws mid rest n v o m w q F G mask j x e r b p s hb =
    let at : j + 2 * n + 2 * m ≡ j + 2 * (n + m) = omega arith in
    let bs : b + n + m ≡ b + (n + m) = omega arith in
    F mask j x e r b p s (omega arith)
    ∙ G mask (j + 2 * n) (rises o x mask) e r (b + n) (p + v * 2 ^ b) s (omega arith)
    ∙ ap₂ (λ (k c : ℕ). runs mask k (rises q (rises o x mask) mask) (receiving_port e r c (p + v * 2 ^ b + w * 2 ^ (b + n)) s) rest) at bs
    ∙ ap₂ (λ (k y : ℕ). runs mask (j + 2 * (n + m)) y (receiving_port e r (b + (n + m)) k s) rest) (further p v b n w) (rises-add q o x mask)
