-- A write by its lines first, as the code tests them, is the write by its stage first, as RULES 3.3 to 3.7 tell it: a release changes
-- nothing at any stage, a start pulse restarts at any stage (of an idle receiver all counts are zero), and one line low clocks.
use mathlib.Core.Path.{◌≡◌, refl, sym, ap₂, ◌∙◌}
use mathlib.Core.Bool.{Bool, false, ◌&&◌}
use Prim.Native.Nat.{ℕ, zero, suc, ◌+◌, ◌*◌, ◌/◌, ◌%◌, ◌<◌}
use native.Mathlib.Nat.{mod-lt}
use native.Mathlib.Omega.{arith}
use lib.Dec.{eqb, lit<}
use lib.Bits.{bit_and, and_high, and_mask}
use Rattle.bits.specs.Bit.{bit_of}
use Rattle.receiver.specs.declared.Stage.{Stage}
use Rattle.receiver.specs.declared.Stage.TheVariants.{Idle, Receiving, Awaiting}
use Rattle.receiver.specs.Lines as L
use Rattle.receiver.specs.Lines.{Pulse, pulse_by, pulse_of, p14_high, p15_high, both_high}
use Rattle.receiver.specs.Receive.{Rx, Sound, begun, restarted, quiet, clocked, when_idle, when_receiving, when_awaiting, pulsed, after_pulse}

-- ---- which pulse a masked byte is

-- the lowest bit of a number is 0 or 1
data Bit (x : ℕ) : Type 0 where
  bit_0 : x % 2 ≡ 0 → Bit x
  bit_1 : x % 2 ≡ 1 → Bit x

bit_is : (x : ℕ) → Bit x
bit_is x = go (x % 2) refl (mod-lt x (lit< tt))
  where
    go : (a : ℕ) → x % 2 ≡ a → a < 2 → Bit x
    go zero e l = bit_0 e
    go (suc zero) e l = bit_1 e
    go (suc (suc a)) e l = absurd (omega arith)

pub lines_of : (v : ℕ) → bit_and v 0x30 ≡ (v / 16 % 2) * 16 + (v / 32 % 2) * 32
lines_of v = and_high v 2 4 ∙ omega arith

by_bits : (v a b : ℕ) → v / 16 % 2 ≡ a → v / 32 % 2 ≡ b → pulse_of v ≡ pulse_by (eqb a 1) (eqb b 1)
unfolding pulse_of p14_high p15_high bit_of
by_bits v a b ha hb = rw (ha, hb)

pub is-release : (v : ℕ) → bit_and v 0x30 ≡ 0x30 → pulse_of v ≡ L.release
unfolding pulse_by
is-release v h = by_bits v 1 1 (omega (arith, lines_of v)) (omega (arith, lines_of v))

pub is-start : (v : ℕ) → bit_and v 0x30 ≡ 0 → pulse_of v ≡ L.start
unfolding pulse_by
is-start v h = by_bits v 0 0 (omega (arith, lines_of v)) (omega (arith, lines_of v))

pub both_test : (v : ℕ) → eqb (bit_and v 0x30) 0x30 ≡ both_high v
unfolding both_high p14_high p15_high bit_of
both_test v = go (bit_is (v / 16)) (bit_is (v / 32))
  where
    go : Bit (v / 16) → Bit (v / 32) → eqb (bit_and v 0x30) 0x30 ≡ (eqb (v / 16 % 2) 1 && eqb (v / 32 % 2) 1)
    go (bit_0 p) (bit_0 q) = rw (lines_of v, p, q)
    go (bit_0 p) (bit_1 q) = rw (lines_of v, p, q)
    go (bit_1 p) (bit_0 q) = rw (lines_of v, p, q)
    go (bit_1 p) (bit_1 q) = rw (lines_of v, p, q)

-- one line low, and the data bit that it is
pub data Low : Pulse → ℕ → Type 0 where
  low_one : Low L.one 1
  low_zero : Low L.zero 0

pub is-low : (v : ℕ) → (bit_and v 0x30 ≡ 0x30 → ⊥) → (bit_and v 0x30 ≡ 0 → ⊥) → Low (pulse_of v) (bit_and (v / 16) 1)
unfolding pulse_by
is-low v h k = go (bit_is (v / 16)) (bit_is (v / 32))
  where
    go : Bit (v / 16) → Bit (v / 32) → Low (pulse_of v) (bit_and (v / 16) 1)
    go (bit_0 p) (bit_0 q) = absurd (k (lines_of v ∙ rw (p, q)))
    go (bit_0 p) (bit_1 q) = rw (by_bits v 0 1 p q, and_mask (v / 16) 1, p) low_zero
    go (bit_1 p) (bit_0 q) = rw (by_bits v 1 0 p q, and_mask (v / 16) 1, p) low_one
    go (bit_1 p) (bit_1 q) = absurd (h (lines_of v ∙ rw (p, q)))

-- ---- the rule by the pulse

pub on-release : (r : Rx) (rel : Bool) → after_pulse r L.release rel ≡ quiet r
unfolding after_pulse pulsed when_idle when_receiving when_awaiting
on-release r rel = go r.stage
  where
    go : (t : Stage) → pulsed t r L.release rel ≡ quiet r
    go Idle = refl
    go Receiving = refl
    go Awaiting = refl

pub on-start : (r : Rx) (rel : Bool) → Sound r → after_pulse r L.start rel ≡ quiet (restarted r)
unfolding after_pulse pulsed when_idle when_receiving when_awaiting restarted
on-start r rel s = go r.stage s.rests
  where
    go : (t : Stage) → (t ≡ Idle → (r.expected ≡ 0) × (r.received ≡ 0)) → pulsed t r L.start rel ≡ quiet (begun r.expected r.received)
    go Idle f = ap₂ (λ (e n : ℕ). quiet (begun e n)) (sym (f refl).0) (sym (f refl).1)
    go Receiving f = refl
    go Awaiting f = refl

-- one line low: no pulse without a release, and none while no packet is coming in
pub on-low : {p : Pulse} {b : ℕ} (r : Rx) (rel : Bool) → Low p b → r.stage ≡ Receiving → after_pulse r p rel ≡ clocked r b rel
unfolding after_pulse pulsed when_receiving
on-low r rel low_one e = rw e
on-low r rel low_zero e = rw e

pub low-idle : {p : Pulse} {b : ℕ} (r : Rx) (rel : Bool) → Low p b → r.stage ≡ Idle → after_pulse r p rel ≡ quiet r
unfolding after_pulse pulsed when_idle
low-idle r rel low_one e = rw e
low-idle r rel low_zero e = rw e

pub low-awaiting : {p : Pulse} {b : ℕ} (r : Rx) (rel : Bool) → Low p b → r.stage ≡ Awaiting → after_pulse r p rel ≡ quiet r
unfolding after_pulse pulsed when_awaiting
low-awaiting r rel low_one e = rw e
low-awaiting r rel low_zero e = rw e

pub low_other : {p : Pulse} {b : ℕ} (r : Rx) (rel : Bool) → Low p b → (r.stage ≡ Receiving → ⊥) → after_pulse r p rel ≡ quiet r
low_other {p} r rel l h = go r.stage refl
  where
    go : (t : Stage) → r.stage ≡ t → after_pulse r p rel ≡ quiet r
    go Idle e = low-idle r rel l e
    go Receiving e = absurd (h e)
    go Awaiting e = low-awaiting r rel l e

pub unreleased : {p : Pulse} {b : ℕ} (r : Rx) → Low p b → after_pulse r p false ≡ quiet r
unfolding clocked
unreleased {p} r l = go r.stage refl
  where
    go : (t : Stage) → r.stage ≡ t → after_pulse r p false ≡ quiet r
    go Idle e = low-idle r false l e
    go Receiving e = on-low r false l e
    go Awaiting e = low-awaiting r false l e
