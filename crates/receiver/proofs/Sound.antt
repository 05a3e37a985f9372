-- Every pulse leaves a sound receiver sound, and what it completes has its place in the store: a data bit goes to the next free
-- power of two, and a packet is kept only while fewer are in than the at most seven that are due.
use mathlib.Core.Path.{◌≡◌, refl, ◌∙◌, subst⁻¹}
use mathlib.Core.Bool.{Bool}
use mathlib.Core.List.{List}
use Prim.Native.Nat.{ℕ, zero, suc, ◌+◌, ◌-◌, ◌*◌, ◌%◌, ◌^◌, ◌<◌, ◌≤◌}
use native.Mathlib.Omega.{arith}
use lib.Dec.{eqb, leb, ltb, lit<, lit≤}
use lib.ListN.{length, length-replicate}
use lib.Pow.{pow-add}
use borrow.Author.Tests.{ltb-true, leb-false}
use Rattle.parts.specs.Parts.{store_bytes}
use Rattle.bits.proofs.Overs.{length_over}
use Rattle.receiver.specs.declared.Done.{Done}
use Rattle.receiver.specs.declared.Done.TheVariants.{Nothing, Packet, Command}
use Rattle.receiver.specs.declared.Stage.{Stage}
use Rattle.receiver.specs.declared.Stage.TheVariants.{Idle, Receiving, Awaiting}
use Rattle.receiver.specs.declared.Written.{Written}
use Rattle.receiver.specs.Count.{code_of, count_of}
use Rattle.receiver.specs.Lines as L
use Rattle.receiver.specs.Lines.{Pulse}
use Rattle.receiver.specs.Receive.{Rx, Step, step_of, Sound, idle, begun, restarted, data_bit, quiet, kept, expecting, stopped, clocked, when_idle, when_receiving, when_awaiting, pulsed, after_pulse}
use Rattle.receiver.specs.Store.{bytes_of, appended, filed, emptied, Fits}
use Rattle.bits.proofs.Tests.{either}
use Rattle.receiver.proofs.Words.{length-bytes}

-- the receiver after a step is sound, and what the step completed has its place
abbrev pub Good : Step → Type 0
Good s = Sound s.next × Fits s.done

pub count-few : (x : ℕ) → count_of x ≤ 7
unfolding count_of
count-few x = either (λ (n : ℕ). n ≤ 7) (leb 0x1E (code_of x)) (λ e. lit≤ tt) (λ e. omega arith)

not-idle : {A : Type 0} → Receiving ≡ Idle → A
not-idle e = let z : ◌≡◌ {A = ℕ} 0 1 = cc in absurd (omega arith)

not-resting : {A : Type 0} → Awaiting ≡ Idle → A
not-resting e = let z : ◌≡◌ {A = ℕ} 0 1 = cc in absurd (omega arith)

pub sound-idle : Sound idle
unfolding idle
sound-idle = record { bound = lit≤ tt; clear = lit< tt; room = lit< tt; due = lit≤ tt; rests = λ e. (refl, refl) }

sound-begun : (e n : ℕ) → n < 7 → e ≤ 7 → Sound (begun e n)
unfolding begun
sound-begun e n h k = record { bound = lit≤ tt; clear = lit< tt; room = h; due = k; rests = not-idle }

pub bit_below : (p n b : ℕ) → p < 2 ^ n → b < 2 → p + b * 2 ^ n < 2 ^ (n + 1)
bit_below p n zero h k = let e : 2 ^ (n + 1) ≡ 2 ^ n * 2 = pow-add 2 n 1 in omega arith
bit_below p n (suc zero) h k = let e : 2 ^ (n + 1) ≡ 2 ^ n * 2 = pow-add 2 n 1 in omega arith
bit_below p n (suc (suc b)) h k = omega arith

sound_bit : (r : Rx) (b : ℕ) → r.bits < 128 → b < 2 → Sound r → Sound (data_bit r b)
unfolding data_bit
sound_bit r b h k s =
    record {
      bound = omega arith;
      clear = bit_below r.packet r.bits b s.clear k;
      room = s.room;
      due = s.due;
      rests = s.rests;
    }

good-quiet : (r : Rx) → Sound r → Good (quiet r)
unfolding quiet
good-quiet r s = (s, tt)

good-kept : (r : Rx) (n : ℕ) → Sound r → n ≤ 7 → Good (kept r n)
unfolding kept
good-kept r n s h =
    either Good (leb n (r.received + 1))
    (λ e. (sound-idle, (omega arith, omega (arith, s.room))))
    (λ e. (
      record {
        bound = lit≤ tt;
        clear = lit< tt;
        room = omega (arith, leb-false n (r.received + 1) e);
        due = h;
        rests = not-resting;
      },
      s.room,
    ))

good-stopped : (r : Rx) → Sound r → Good (stopped r)
unfolding stopped expecting
good-stopped r s =
    either Good (eqb r.received 0)
    (λ e. either Good (eqb (count_of (r.packet % 256)) 0)
    (λ z. good-quiet idle sound-idle)
    (λ z. good-kept r _ s (count-few (r.packet % 256))))
    (λ e. good-kept r _ s s.due)

good-clocked : (r : Rx) (b : ℕ) (rel : Bool) → b < 2 → Sound r → Good (clocked r b rel)
unfolding clocked
good-clocked r b rel k s =
    either Good rel
    (λ e. either Good (ltb r.bits 128)
    (λ z. good-quiet _ (sound_bit r b (ltb-true r.bits 128 z) k s))
    (λ z. good-stopped r s))
    (λ e. good-quiet r s)

pub good-pulse : (r : Rx) (p : Pulse) (rel : Bool) → Sound r → Good (after_pulse r p rel)
unfolding after_pulse restarted pulsed when_idle when_receiving when_awaiting
good-pulse r p rel s = go r.stage p
  where
    go : (t : Stage) (q : Pulse) → Good (pulsed t r q rel)
    go Idle L.start = good-quiet (begun 0 0) (sound-begun 0 0 (lit< tt) (lit≤ tt))
    go Idle L.one = good-quiet r s
    go Idle L.zero = good-quiet r s
    go Idle L.release = good-quiet r s
    go Receiving L.start = good-quiet (restarted r) (sound-begun r.expected r.received s.room s.due)
    go Receiving L.one = good-clocked r 1 rel (lit< tt) s
    go Receiving L.zero = good-clocked r 0 rel (lit< tt) s
    go Receiving L.release = good-quiet r s
    go Awaiting L.start = good-quiet (restarted r) (sound-begun r.expected r.received s.room s.due)
    go Awaiting L.one = good-quiet r s
    go Awaiting L.zero = good-quiet r s
    go Awaiting L.release = good-quiet r s

-- what the code's write completed has its place
pub has-place : (w : Written) (r : Rx) (p : Pulse) (rel : Bool) → Sound r → step_of w ≡ after_pulse r p rel → Fits w.done
has-place w r p rel s h = subst⁻¹ (λ (x : Step). Fits x.done) h (good-pulse r p rel s).1

-- ---- the store stays 112 bytes long

pub length-appended : (s : List ℕ) (p n : ℕ) → n < 7 → length s ≡ store_bytes → length (appended s p n) ≡ store_bytes
unfolding appended
length-appended s p n h l = length_over (16 * n) 16 (bytes_of 16 p) s (omega arith) (length-bytes 16 p) ∙ l

pub length-filed : (d : Done) (p : ℕ) (s : List ℕ) → Fits d → length s ≡ store_bytes → length (filed d p s) ≡ store_bytes
unfolding filed
length-filed Nothing p s f l = l
length-filed (Packet n) p s f l = length-appended s p n f l
length-filed (Command n) p s f l = length-appended s p (n - 1) (omega arith) l

pub length-emptied : (d : Done) (s : List ℕ) → length s ≡ store_bytes → length (emptied d s) ≡ store_bytes
unfolding emptied
length-emptied Nothing s l = l
length-emptied (Packet n) s l = l
length-emptied (Command n) s l = length-replicate {A = ℕ} store_bytes 0
