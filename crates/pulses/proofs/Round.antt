-- The round trip. A data pulse and its release add one bit, so the pulses of a packet, bit by bit from the lowest, make the number whose
-- bytes are the packet; its stop puts those bytes behind the earlier ones; the last stop answers them all, and leaves the receiver idle.
use mathlib.Core.Path.{◌≡◌, refl, sym, ap, ap₂, ◌∙◌}
use mathlib.Core.Bool.{true, false}
use mathlib.Core.List.{List, [], ◌∷◌, ◌++◌, append_assoc}
use mathlib.Core.Option.{none, some}
use Prim.Native.Nat.{ℕ, zero, suc, ◌+◌, ◌-◌, ◌*◌, ◌/◌, ◌%◌, ◌^◌, ◌<◌, ◌≤◌}
use native.Mathlib.Nat.{mod-lt, mul_assoc, mul_comm, mul_left_comm, add-mul}
use native.Mathlib.Omega.{arith}
use lib.Dec.{lit<}
use lib.ListN.{length, get_or, take, replicate}
use lib.Pow.{pow-add}
use borrow.Author.Tests.{lt-ltb, le-leb, lt-leb, eq-eqb, ne_eqb}
use Rattle.parts.specs.Parts.{store_bytes}
use Rattle.bits.specs.Bit.{bit_of}
use Rattle.receiver.specs.Count.{count_of}
use Rattle.receiver.specs.Lines.{p14_high, p15_high, both_high, pulse_by, pulse_of}
use Rattle.receiver.specs.Receive.{Rx, idle, begun, restarted, data_bit, quiet, kept, expecting, stopped, clocked, when_idle, when_receiving, when_awaiting, pulsed, after_pulse}
use Rattle.receiver.specs.Store.{bytes_of, appended, filed, answer_of, emptied}
use Rattle.receiver.specs.Port.{Port, answered, wrote, told, heard}
use Rattle.receiver.specs.declared.Stage.{Stage}
use Rattle.receiver.specs.declared.Stage.TheVariants.{Idle, Receiving, Awaiting}
use Rattle.pulses.specs.Bytes.{Bytes}
use Rattle.pulses.specs.Encode.{bits_of, bits_in, pulse, sent, packet_pulses}
use Rattle.pulses.specs.Trip.{NoneHeldAt, NoneHeld, resting}
use Rattle.pulses.proofs.Packets.{length-bits_in}

-- ---- bits make a number, and the number's bytes are those whose bits they are

abbrev Bits : List ℕ → Type 0
Bits [] = Unit {0}
Bits (b ∷ bs) = (b < 2) × Bits bs

abbrev pub value : List ℕ → ℕ
value [] = 0
value (b ∷ bs) = b + 2 * value bs

bits_are : (n x : ℕ) (bs : List ℕ) → Bits bs → Bits (bits_of n x ++ bs)
unfolding bits_of
bits_are zero x bs h = h
bits_are (suc n) x bs h = (mod-lt x (lit< tt), bits_are n (x / 2) bs h)

bits_in_are : (q : List ℕ) → Bits (bits_in q)
unfolding bits_in
bits_in_are [] = tt
bits_in_are (x ∷ q) = bits_are 8 x (bits_in q) (bits_in_are q)

value-byte : (x : ℕ) (bs : List ℕ) → x < 256 → value (bits_of 8 x ++ bs) ≡ x + 256 * value bs
unfolding bits_of
value-byte x bs h = omega arith

pub value-bytes : (q : List ℕ) → Bytes q → bytes_of (length q) (value (bits_in q)) ≡ q
unfolding bytes_of bits_in
value-bytes [] h = refl
value-bytes (x ∷ q) h =
    let e : value (bits_of 8 x ++ bits_in q) ≡ x + 256 * value (bits_in q) = value-byte x (bits_in q) h.0 in
    let m : value (bits_of 8 x ++ bits_in q) % 256 ≡ x = omega arith in
    let d : value (bits_of 8 x ++ bits_in q) / 256 ≡ value (bits_in q) = omega arith in
    ap₂ (λ (a : ℕ) (t : List ℕ). a ∷ t) m (ap (bytes_of (length q)) d ∙ value-bytes q h.1)

pub value-first : (q : List ℕ) → Bytes q → 0 < length q → value (bits_in q) % 256 ≡ get_or q 0 0
unfolding bits_in
value-first [] h l = refl
value-first (x ∷ q) h l =
    let e : value (bits_of 8 x ++ bits_in q) ≡ x + 256 * value (bits_in q) = value-byte x (bits_in q) h.0 in
    omega (arith, h.0)

-- ---- the port with both lines high

abbrev pub high : Rx → List ℕ → Port
high r s = record { p15 = true; both = true; rx = r; store = s }

-- receiving: e expected, n received, k bits in, the packet p
abbrev pub live : ℕ → ℕ → ℕ → ℕ → List ℕ → Port
live e n k p s = high (record { stage = Receiving; expected = e; received = n; bits = k; packet = p }) s

abbrev pub awaiting : ℕ → ℕ → List ℕ → Port
awaiting e n s = high (record { stage = Awaiting; expected = e; received = n; bits = 0; packet = 0 }) s

-- a data pulse and its release
data-bit : (b e n k p : ℕ) (s rest : List ℕ) → b < 2 → k < 128
    → heard (live e n k p s) (pulse b ∷ 0x30 ∷ rest) ≡ heard (live e n (k + 1) (p + b * 2 ^ k) s) rest
unfolding pulse heard told answered wrote after_pulse pulsed when_receiving clocked quiet data_bit filed answer_of emptied pulse_of pulse_by p14_high p15_high both_high bit_of
data-bit zero e n k p s rest h l = rw (lt-ltb k 128 l)
data-bit (suc zero) e n k p s rest h l = rw (lt-ltb k 128 l)
data-bit (suc (suc b)) e n k p s rest h l = absurd (omega arith)

-- the value of the bits from k on: b at k, and v from k + 1 on
places : (b v k : ℕ) → b * 2 ^ k + v * 2 ^ (k + 1) ≡ (b + 2 * v) * 2 ^ k
places b v k =
    ap (λ (y : ℕ). b * 2 ^ k + v * y) (pow-add 2 k 1 ∙ mul_comm (2 ^ k) 2)
    ∙ ap (λ (y : ℕ). b * 2 ^ k + y) (mul_left_comm v 2 (2 ^ k) ∙ sym (mul_assoc 2 v (2 ^ k)))
    ∙ sym (add-mul b (2 * v) (2 ^ k))

data-bits : (bs : List ℕ) (e n k p : ℕ) (s rest : List ℕ) → Bits bs → k + length bs ≤ 128
    → heard (live e n k p s) (sent bs ++ rest) ≡ heard (live e n (k + length bs) (p + value bs * 2 ^ k) s) rest
unfolding sent
data-bits [] e n k p s rest h l = ap₂ (λ (i q : ℕ). heard (live e n i q s) rest) (omega arith) (omega arith)
data-bits (b ∷ bs) e n k p s rest h l =
    data-bit b e n k p s (sent bs ++ rest) h.0 (omega arith)
    ∙ data-bits bs e n (k + 1) (p + b * 2 ^ k) s rest h.1 (omega arith)
    ∙ ap₂ (λ (i q : ℕ). heard (live e n i q s) rest) (omega arith) (omega (arith, places b (value bs) k))

-- ---- a packet comes in: the start, its bits, and then the stop

-- a packet's pulses up to its stop
abbrev pub unstopped : List ℕ → List ℕ
unstopped q = 0x00 ∷ 0x30 ∷ sent (bits_in q)

abbrev pub stop : List ℕ → List ℕ
stop rest = 0x20 ∷ 0x30 ∷ rest

pub packet-stop : (q rest : List ℕ) → packet_pulses q ++ rest ≡ unstopped q ++ stop rest
unfolding packet_pulses
packet-stop q rest = append_assoc (unstopped q) (0x20 ∷ 0x30 ∷ []) rest

bits_in-order : (q : List ℕ) (e n : ℕ) (s rest : List ℕ) → length q ≡ 16
    → heard (live e n 0 0 s) (sent (bits_in q) ++ rest) ≡ heard (live e n 128 (value (bits_in q)) s) rest
bits_in-order q e n s rest l =
    let m : length (bits_in q) ≡ 128 = omega (arith, length-bits_in q) in
    data-bits (bits_in q) e n 0 0 s rest (bits_in_are q) (omega arith)
    ∙ ap₂ (λ (i p : ℕ). heard (live e n i p s) rest) (omega arith) (omega arith)

-- to a receiver that awaits it
pub next-sent : (q : List ℕ) (e n : ℕ) (s rest : List ℕ) → length q ≡ 16
    → heard (awaiting e n s) (unstopped q ++ rest) ≡ heard (live e n 128 (value (bits_in q)) s) rest
unfolding heard told answered wrote after_pulse pulsed when_receiving when_awaiting quiet begun restarted filed answer_of emptied pulse_of pulse_by p14_high p15_high both_high bit_of
next-sent q e n s rest l = bits_in-order q e n s rest l

-- to a receiver that holds no earlier packet: what it expects then is of no account
abbrev pub expects : Stage → ℕ → ℕ
expects Idle e = 0
expects Receiving e = e
expects Awaiting e = e

begins : (u : Port) (rest : List ℕ) → NoneHeld u.rx
    → heard u (0x00 ∷ 0x30 ∷ rest) ≡ heard (live (expects u.rx.stage u.rx.expected) 0 0 0 u.store) rest
unfolding heard told answered wrote after_pulse pulsed when_idle when_receiving when_awaiting quiet begun restarted filed answer_of emptied pulse_of pulse_by p14_high p15_high both_high bit_of
begins u rest h = go u.rx.stage refl h
  where
    go : (t : Stage) → u.rx.stage ≡ t → NoneHeldAt t u.rx
        → heard u (0x00 ∷ 0x30 ∷ rest) ≡ heard (live (expects t u.rx.expected) 0 0 0 u.store) rest
    go Idle e k = rw e
    go Receiving e k = rw (e, k)
    go Awaiting e k = absurd k

pub first-sent : (u : Port) (q rest : List ℕ) → NoneHeld u.rx → length q ≡ 16
    → heard u (unstopped q ++ rest) ≡ heard (live (expects u.rx.stage u.rx.expected) 0 128 (value (bits_in q)) u.store) rest
first-sent u q rest h l =
    begins u (sent (bits_in q) ++ rest) h ∙ bits_in-order q (expects u.rx.stage u.rx.expected) 0 u.store rest l

-- ---- the stop: d packets are due, by the first byte of the first packet or as it was told then

pub data Due (e n p d : ℕ) : Type 0 where
  by_count : n ≡ 0 → count_of (p % 256) ≡ d → 0 < d → Due e n p d
  as_told : 0 < n → e ≡ d → Due e n p d

pub stop-more : (e n p d : ℕ) (s rest : List ℕ) → Due e n p d → n + 1 < d
    → heard (live e n 128 p s) (stop rest) ≡ heard (awaiting d (n + 1) (appended s p n)) rest
unfolding heard told answered wrote after_pulse pulsed when_receiving when_awaiting clocked stopped expecting kept quiet filed answer_of emptied pulse_of pulse_by p14_high p15_high both_high bit_of
stop-more e n p d s rest (by_count z h k) m = rw (eq-eqb n 0 z, h, ne_eqb d 0 (λ y. omega arith), lt-leb d (n + 1) m)
stop-more e n p d s rest (as_told k h) m = rw (ne_eqb n 0 (λ y. omega arith), h, lt-leb d (n + 1) m)

-- the port at the last stop pulse: P14 is low yet, all else is at rest
abbrev pub at_stop : Port
at_stop = record { p15 = true; both = false; rx = idle; store = replicate store_bytes 0 }

pub stop-last : (e n p d : ℕ) (s : List ℕ) → Due e n p d → d ≤ n + 1
    → (answered (live e n 128 p s) 0x20 ≡ some (take (16 * (n + 1)) (appended s p n))) × (wrote (live e n 128 p s) 0x20 ≡ at_stop)
unfolding answered wrote after_pulse pulsed when_receiving clocked stopped expecting kept quiet filed answer_of emptied pulse_of pulse_by p14_high p15_high both_high bit_of
stop-last e n p d s (by_count z h k) m =
    let b : n + 1 - 1 ≡ n = omega arith in
    rw (eq-eqb n 0 z, h, ne_eqb d 0 (λ y. omega arith), le-leb d (n + 1) m, b) (refl, refl)
stop-last e n p d s (as_told k h) m =
    let b : n + 1 - 1 ≡ n = omega arith in
    rw (ne_eqb n 0 (λ y. omega arith), h, le-leb d (n + 1) m, b) (refl, refl)

-- its release
pub release-last : (answered at_stop 0x30 ≡ none) × (wrote at_stop 0x30 ≡ resting)
unfolding answered wrote after_pulse pulsed when_idle quiet idle resting filed answer_of emptied pulse_of pulse_by p14_high p15_high both_high bit_of
release-last = (refl, refl)
