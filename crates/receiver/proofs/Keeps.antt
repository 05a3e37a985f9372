-- A write keeps V3: a restart leaves the counts and the store as they are, a data bit fills the next bit, and a stop either empties all
-- or adds sixteen bytes at the first free place, which leaves the store's first byte and the zeros past it.
use mathlib.Core.Path.{◌≡◌, refl, sym, ap, ◌∙◌}
use mathlib.Core.Bool.{Bool, true}
use mathlib.Core.List.{List}
use mathlib.Core.Logic.{◌⊎◌, inl, inr}
use Prim.Native.Nat.{ℕ, suc, ◌+◌, ◌*◌, ◌%◌, ◌<◌, ◌≤◌}
use native.Mathlib.Omega.{arith}
use lib.Dec.{eqb, leb, ltb, lit<, lit≤}
use lib.ListN.{length, get_or, drop, replicate}
use borrow.Author.Tests.{ltb-true, leb-false, eq-eqb, ne_eqb}
use Rattle.parts.specs.Parts.{store_bytes}
use Rattle.bits.specs.Zero.{zeros}
use Rattle.receiver.specs.declared.Stage.{Stage}
use Rattle.receiver.specs.declared.Stage.TheVariants.{Idle, Receiving, Awaiting}
use Rattle.receiver.specs.Count.{count_of}
use Rattle.receiver.specs.Lines as L
use Rattle.receiver.specs.Lines.{Pulse, pulse_of}
use Rattle.receiver.specs.Receive.{Rx, Step, Sound, idle, begun, restarted, data_bit, quiet, kept, expecting, stopped, clocked, when_idle, when_receiving, when_awaiting, pulsed, after_pulse}
use Rattle.receiver.specs.Store.{bytes_of, appended, filed, emptied, packets_of}
use Rattle.receiver.specs.Port.{Port, step_at, wrote}
use Rattle.receiver.specs.Valid.{Coming, First, Later, V3At, V3}
use Rattle.bits.proofs.Overs.{drop-over, get_or-over}
use Rattle.bits.proofs.Tests.{either}
use Rattle.bits.proofs.Zeros.{replicate-zeros, zeros-drop}
use Rattle.receiver.proofs.Words.{length-bytes}
use Rattle.receiver.proofs.Sound.{count-few, good-pulse, length-filed, length-emptied, bit_below}

-- the packets so far: none, or some of a command
abbrev So_far : ℕ → ℕ → List ℕ → Type 0
So_far e n s = First e n s ⊎ Later e n s

room : (e n : ℕ) (s : List ℕ) → So_far e n s → n < 7
room e n s (inl f) = omega (arith, f.none_in)
room e n s (inr m) = omega (arith, m.more_due, m.few)

due : (e n : ℕ) (s : List ℕ) → So_far e n s → e ≤ 7
due e n s (inl f) = omega (arith, f.none_due)
due e n s (inr m) = m.few

-- ---- V3 gives what the methods require

pub v3-sound : (r : Rx) (s : List ℕ) → V3 r s → Sound r
v3-sound r s v = go r.stage refl v
  where
    go : (t : Stage) → r.stage ≡ t → V3At t r s → Sound r
    go Idle e h =
        record {
          bound = omega (arith, h.bits);
          clear = rw (h.packet, h.bits) (lit< tt);
          room = omega (arith, h.received);
          due = omega (arith, h.expected);
          rests = λ z. (h.expected, h.received);
        }
    go Receiving e h =
        record {
          bound = h.0.bound;
          clear = h.0.clear;
          room = room r.expected r.received s h.1;
          due = due r.expected r.received s h.1;
          rests = λ z. absurd (let y : ◌≡◌ {A = ℕ} 0 1 = cc in omega arith);
        }
    go Awaiting e h =
        record {
          bound = omega (arith, h.0.bits);
          clear = rw (h.0.packet, h.0.bits) (lit< tt);
          room = room r.expected r.received s (inr h.1);
          due = h.1.few;
          rests = λ z. absurd (let y : ◌≡◌ {A = ℕ} 0 1 = cc in omega arith);
        }

-- ---- a step keeps it

-- V3 after a step from a receiver with the packet p and the store s
abbrev After : Step → ℕ → List ℕ → Type 0
After x p s = V3 x.next (emptied x.done (filed x.done p s))

rests : (s : List ℕ) → zeros s ≡ true → V3 idle s
unfolding idle
rests s z = record { expected = refl; received = refl; bits = refl; packet = refl; store = z }

begins : (e n : ℕ) (s : List ℕ) → So_far e n s → V3 (begun e n) s
unfolding begun
begins e n s f = (record { bound = lit≤ tt; clear = lit< tt }, f)

-- the store with one more packet: its first byte, and what stands past it
first_of-first : (s : List ℕ) (p n : ℕ) → n ≡ 0 → get_or (appended s p n) 0 0 ≡ p % 256
unfolding appended bytes_of
first_of-first s p n e = rw e

first-stays : (s : List ℕ) (p n : ℕ) → 1 ≤ n → 16 * n ≤ length s → get_or (appended s p n) 0 0 ≡ get_or s 0 0
unfolding appended
first-stays s p n h l = get_or-over (16 * n) 16 0 (bytes_of 16 p) s (omega arith) l

rest-stays : (s : List ℕ) (p n : ℕ) → 16 * n ≤ length s → zeros (drop (16 * n) s) ≡ true → zeros (drop (16 * (n + 1)) (appended s p n)) ≡ true
unfolding appended
rest-stays s p n l z =
    let e : 16 * (n + 1) ≡ 16 * n + 16 = omega arith in
    rw (e, drop-over (16 * n) 16 (bytes_of 16 p) s l (length-bytes 16 p)) (zeros-drop 16 (drop (16 * n) s) z)

kept-v3 : (r : Rx) (n : ℕ) (s : List ℕ) → length s ≡ store_bytes → r.received < 7 → n ≤ 7
    → n ≡ count_of (get_or (appended s r.packet r.received) 0 0) → zeros (drop (16 * r.received) s) ≡ true
    → After (kept r n) r.packet s
unfolding kept emptied filed
kept-v3 r n s l m k c z =
    either (λ (x : Step). After x r.packet s) (leb n (r.received + 1))
    (λ e. rests (replicate store_bytes 0) (replicate-zeros store_bytes))
    (λ e. (
      record { bits = refl; packet = refl },
      record {
        some_in = omega arith;
        more_due = leb-false n (r.received + 1) e;
        few = k;
        counted = c;
        rest_empty = rest-stays s r.packet r.received (omega arith) z;
      },
    ))

stopped-v3 : (r : Rx) (s : List ℕ) → length s ≡ store_bytes → So_far r.expected r.received s → After (stopped r) r.packet s
unfolding stopped expecting quiet emptied filed
stopped-v3 r s l (inl f) =
    rw (eq-eqb r.received 0 f.none_in)
    (either (λ (x : Step). After x r.packet s) (eqb (count_of (r.packet % 256)) 0)
    (λ e. rests-quiet)
    (λ e. kept-v3 r (count_of (r.packet % 256)) s l (omega (arith, f.none_in)) (count-few (r.packet % 256))
    (ap count_of (sym (first_of-first s r.packet r.received f.none_in)))
    (zeros-drop (16 * r.received) s f.empty)))
  where
    rests-quiet : After (quiet idle) r.packet s
    rests-quiet = rests s f.empty
stopped-v3 r s l (inr m) =
    let h : r.received < 7 = room r.expected r.received s (inr m) in
    rw (ne_eqb r.received 0 (λ e. omega (arith, m.some_in)))
    (kept-v3 r r.expected s l h m.few
    (m.counted ∙ ap count_of (sym (first-stays s r.packet r.received m.some_in (omega arith))))
    m.rest_empty)

bit-v3 : (r : Rx) (b : ℕ) (s : List ℕ) → r.stage ≡ Receiving → b < 2 → r.bits < 128 → Coming r.bits r.packet
    → So_far r.expected r.received s → V3 (data_bit r b) s
unfolding data_bit
bit-v3 r b s e k h c f = rw e (record { bound = omega arith; clear = bit_below r.packet r.bits b c.clear k }, f)

clocked-v3 : (r : Rx) (b : ℕ) (rel : Bool) (s : List ℕ) → r.stage ≡ Receiving → b < 2 → length s ≡ store_bytes → V3 r s
    → Coming r.bits r.packet → So_far r.expected r.received s → After (clocked r b rel) r.packet s
unfolding clocked quiet emptied filed
clocked-v3 r b rel s e k l v c f =
    either (λ (x : Step). After x r.packet s) rel
    (λ y. either (λ (x : Step). After x r.packet s) (ltb r.bits 128)
    (λ z. bit-v3 r b s e k (ltb-true r.bits 128 z) c f)
    (λ z. stopped-v3 r s l f))
    (λ y. v)

pulse-v3 : (r : Rx) (p : Pulse) (rel : Bool) (s : List ℕ) → length s ≡ store_bytes → V3 r s → After (after_pulse r p rel) r.packet s
unfolding after_pulse pulsed when_idle when_receiving when_awaiting quiet emptied filed restarted
pulse-v3 r p rel s l v = go r.stage refl p v
  where
    go : (t : Stage) → r.stage ≡ t → (q : Pulse) → V3At t r s → After (pulsed t r q rel) r.packet s
    go Idle e L.start h = begins 0 0 s (inl (record { none_in = refl; none_due = refl; empty = h.store }))
    go Idle e L.one h = v
    go Idle e L.zero h = v
    go Idle e L.release h = v
    go Receiving e L.start h = begins r.expected r.received s h.1
    go Receiving e L.one h = clocked-v3 r 1 rel s e (lit< tt) l v h.0 h.1
    go Receiving e L.zero h = clocked-v3 r 0 rel s e (lit< tt) l v h.0 h.1
    go Receiving e L.release h = v
    go Awaiting e L.start h = begins r.expected r.received s (inr h.1)
    go Awaiting e L.one h = v
    go Awaiting e L.zero h = v
    go Awaiting e L.release h = v

-- ---- a write that completes a command leaves the receiver idle

abbrev Completes-idle : Step → Type 0
Completes-idle x = (n : ℕ) → packets_of x.done ≡ suc n → x.next ≡ idle

kept-idle : (r : Rx) (n : ℕ) → Completes-idle (kept r n)
unfolding kept packets_of
kept-idle r n = either Completes-idle (leb n (r.received + 1)) (λ e m h. refl) (λ e m h. absurd (omega arith))

quiet-idle : (r : Rx) → Completes-idle (quiet r)
unfolding quiet packets_of
quiet-idle r m h = absurd (omega arith)

stopped-idle : (r : Rx) → Completes-idle (stopped r)
unfolding stopped expecting
stopped-idle r =
    either Completes-idle (eqb r.received 0)
    (λ e. either Completes-idle (eqb (count_of (r.packet % 256)) 0) (λ z. quiet-idle idle) (λ z. kept-idle r _))
    (λ e. kept-idle r _)

clocked-idle : (r : Rx) (b : ℕ) (rel : Bool) → Completes-idle (clocked r b rel)
unfolding clocked
clocked-idle r b rel =
    either Completes-idle rel
    (λ e. either Completes-idle (ltb r.bits 128) (λ z. quiet-idle (data_bit r b)) (λ z. stopped-idle r))
    (λ e. quiet-idle r)

pub completes-idle : (r : Rx) (p : Pulse) (rel : Bool) → Completes-idle (after_pulse r p rel)
unfolding after_pulse pulsed when_idle when_receiving when_awaiting
completes-idle r p rel = go r.stage p
  where
    go : (t : Stage) (q : Pulse) → Completes-idle (pulsed t r q rel)
    go Idle L.start = quiet-idle (begun 0 0)
    go Idle L.one = quiet-idle r
    go Idle L.zero = quiet-idle r
    go Idle L.release = quiet-idle r
    go Receiving L.start = quiet-idle (restarted r)
    go Receiving L.one = clocked-idle r 1 rel
    go Receiving L.zero = clocked-idle r 0 rel
    go Receiving L.release = quiet-idle r
    go Awaiting L.start = quiet-idle (restarted r)
    go Awaiting L.one = quiet-idle r
    go Awaiting L.zero = quiet-idle r
    go Awaiting L.release = quiet-idle r

-- ---- a write keeps V3, and the store's length

pub wrote-v3 : (u : Port) (v : ℕ) → length u.store ≡ store_bytes → V3 u.rx u.store → V3 (wrote u v).rx (wrote u v).store
unfolding wrote
wrote-v3 u v l h = pulse-v3 u.rx (pulse_of v) u.both u.store l h

pub wrote-length : (u : Port) (v : ℕ) → length u.store ≡ store_bytes → Sound u.rx → length (wrote u v).store ≡ store_bytes
unfolding wrote
wrote-length u v l h =
    length-emptied (step_at u v).done _
    (length-filed (step_at u v).done u.rx.packet u.store (good-pulse u.rx (pulse_of v) u.both h).1 l)
