-- While no packet is coming in, a write that is no start pulse leaves the receiver and its store as they are.
use mathlib.Core.Path.{◌≡◌, refl, sym, ap, ◌∙◌}
use mathlib.Core.Bool.{Bool, true, false, ◌&&◌, cond}
use mathlib.Core.List.{List, ◌∷◌}
use Prim.Native.Nat.{ℕ, zero, suc, ◌+◌, ◌/◌, ◌%◌, ◌<◌}
use native.Mathlib.Nat.{mod-lt}
use native.Mathlib.Numerals.{add-one}
use native.Mathlib.Omega.{arith}
use lib.Bits.{bit_and}
use lib.Dec.{eqb, lit<}
use lib.ListN.{length, get_or, drop}
use lib.Seq.{drop-cons}
use borrow.Author.Tests.{eqb-true, eqb-false}
use Rattle.bits.specs.Bit.{bit_of}
use Rattle.receiver.specs.declared.Stage.{Stage}
use Rattle.receiver.specs.declared.Stage.TheVariants.{Idle, Receiving, Awaiting}
use Rattle.receiver.specs.declared.Receiver.{Receiver}
use Rattle.receiver.specs.Lines.{Pulse, p15_high, both_high, pulse_of, indexed}
use Rattle.receiver.specs.Receive.{Rx, Step, rx_of, Sound, quiet, after_pulse}
use Rattle.receiver.specs.Store.{filed, packets_of}
use Rattle.receiver.specs.Port.{Port}
use Rattle.receiver.proofs.Rises.{rises_at}
use Rattle.receiver.proofs.Pulses.{Low, is-release, is-low, on-release, low-idle, low-awaiting}
use Rattle.receiver_run.specs.Run.{lined, onward, runs, port_of}
use Rattle.receiver_run.specs.declared.Lines.{Lines}
use Rattle.receiver_run.proofs.Turns.{port, index-small}
use Rattle.receiver_polling.specs.declared.fed.Fed.{Fed}
use Rattle.receiver_polling.specs.Passing.{lines_after, Passed}

still-low : {p : Pulse} {b : ℕ} (r : Rx) (rel : Bool) → Low p b → (r.stage ≡ Receiving → ⊥) → after_pulse r p rel ≡ quiet r
still-low {p} r rel l f = go r.stage refl
  where
    go : (t : Stage) → r.stage ≡ t → after_pulse r p rel ≡ quiet r
    go Idle e = low-idle r rel l e
    go Receiving e = absurd (f e)
    go Awaiting e = low-awaiting r rel l e

-- a write of v with the receiver r, which waits
module _ (r : Rx) (rel : Bool) (v : ℕ) (f : r.stage ≡ Receiving → ⊥) (g : bit_and v 0x30 ≡ 0 → ⊥) where
  still : after_pulse r (pulse_of v) rel ≡ quiet r
  still = go (eqb (bit_and v 0x30) 0x30) refl
    where
      go : (b : Bool) → eqb (bit_and v 0x30) 0x30 ≡ b → after_pulse r (pulse_of v) rel ≡ quiet r
      go true e = rw (is-release v (eqb-true (bit_and v 0x30) 0x30 e)) (on-release r rel)
      go false e = still-low r rel (is-low v (eqb-false (bit_and v 0x30) 0x30 e) g) f

-- .. is passed by
module _ (mask i x : ℕ) (r : Rx) (p15 both : Bool) (s : List ℕ) (v : ℕ) (vs : List ℕ) (f : r.stage ≡ Receiving → ⊥) (g : bit_and v 0x30 ≡ 0 → ⊥) where
  pub passes : runs mask i x (port r p15 both s) (v ∷ vs)
      ≡ runs mask (suc i) (indexed x mask p15 v) (port r (p15_high v) (both_high v) s) vs
  unfolding runs onward lined packets_of filed quiet
  passes =
      let y : ℕ = indexed x mask p15 v in
      let after : Step → Port = λ (t : Step). port t.next (p15_high v) (both_high v) (filed t.done r.packet s) in
      ap (λ (t : Step). onward (packets_of t.done) (after t) y (suc i) (runs mask (suc i) y (after t) vs)) (still r both v f g)

-- the index stays one that can step
pub after-small : (l : Lines) (mask v : ℕ) → l.index < 255 → mask < 255 → (lines_after l mask v).index < 255
unfolding lines_after
after-small l mask v hi hm = index-small l.index mask l.p15 v hi hm

-- one write on
module _ (mask i : ℕ) (rx : Receiver) (l : Lines) (ws : List ℕ) (h : i < length ws) (so : Sound (rx_of rx)) (hi : l.index < 255)
    (hm : mask < 255) (f : rx.stage ≡ Receiving → ⊥) (g : bit_and (get_or ws i 0) 0x30 ≡ 0 → ⊥) where
  abbrev pub beyond : Fed
  beyond =
      record {
        rx = rx;
        lines = lines_after l mask (get_or ws i 0);
        at = i + 1;
        sound = so;
        few = after-small l mask (get_or ws i 0) hi hm;
      }

  pub passed-one : Passed mask i rx l ws beyond
  unfolding lines_after
  passed-one =
      record {
        onto = omega arith;
        within = omega arith;
        kept = refl;
        sound = so;
        few = after-small l mask (get_or ws i 0) hi hm;
        same = λ (s : List ℕ).
            ap (runs mask i l.index (port_of rx l s)) (drop-cons ws i 0 h)
            ∙ passes mask i l.index (rx_of rx) l.p15 l.both s (get_or ws i 0) (drop (suc i) ws) f g
            ∙ ap (λ (j : ℕ). runs mask j (indexed l.index mask l.p15 (get_or ws i 0)) (port_of rx beyond.lines s) (drop j ws)) (sym (add-one i));
      }

-- P15 was high; or it was low, and bit 5 tells
pub stays-high : (v : ℕ) → rises_at true v ≡ 0
unfolding rises_at
stays-high v = go (p15_high v)
  where
    go : (b : Bool) → ◌≡◌ {A = ℕ} (cond (b && false) 1 0) 0
    go true = refl
    go false = refl

pub risen-by : (v : ℕ) → rises_at false v ≡ v / 32 % 2
unfolding rises_at p15_high bit_of
risen-by v = go (v / 32 % 2) (mod-lt (v / 32) (lit< tt))
  where
    go : (n : ℕ) → n < 2 → cond (eqb n 1 && true) 1 0 ≡ n
    go zero h = refl
    go (suc zero) h = refl
    go (suc (suc n)) h = absurd (omega arith)
