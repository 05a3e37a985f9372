-- A packet of sixteen bytes is 260 writes, and each stands where it is told: two for the start, two for each of 128 bits, two for the stop.
use mathlib.Core.Path.{◌≡◌, refl, sym, ap, ◌∙◌}
use mathlib.Core.List.{List, [], ◌∷◌, ◌++◌, append_assoc, append-nil}
use Prim.Native.Nat.{ℕ, zero, suc, ◌+◌, ◌-◌, ◌*◌, ◌/◌, ◌%◌, ◌^◌, ◌<◌, ◌≤◌}
use native.Mathlib.Nat.{not-suc-le-zero, le_of_suc-le-suc, div-one}
use native.Mathlib.Decide.{dec_lt}
use native.Mathlib.Omega.{arith}
use lib.ListN.{length, get_or, take, drop, length-append, length-drop, get_or-append}
use lib.Bits.{bit_and, and_mask}
use lib.Pow.{shr-shr}
use lib.Seq.{get_or-append-add, length-take-le, drop-drop}
use Rattle.pulses.specs.Encode.{bits_of, bits_in, pulse, sent, packet_pulses, pulses_of}

-- ---- bits

length-bits : (n x : ℕ) → length (bits_of n x) ≡ n
unfolding bits_of
length-bits zero x = refl
length-bits (suc n) x = ap suc (length-bits n (x / 2))

pub length-bits_in : (q : List ℕ) → length (bits_in q) ≡ 8 * length q
unfolding bits_in
length-bits_in [] = refl
length-bits_in (x ∷ q) = length-append (bits_of 8 x) (bits_in q) ∙ omega (arith, length-bits 8 x, length-bits_in q)

bit-of : (n x k : ℕ) → k < n → get_or (bits_of n x) k 0 ≡ x / 2 ^ k % 2
unfolding bits_of
bit-of zero x k h = absurd (not-suc-le-zero h)
bit-of (suc n) x zero h = ap (λ (y : ℕ). y % 2) (sym (div-one x))
bit-of (suc n) x (suc k) h =
    let e : 1 + k ≡ suc k = omega arith in
    bit-of n (x / 2) k (le_of_suc-le-suc h) ∙ ap (λ (y : ℕ). y % 2) (shr-shr x 1 k ∙ ap (λ (j : ℕ). x / 2 ^ j) e)

pub bit_in : (q : List ℕ) (k : ℕ) → k < 8 * length q → get_or (bits_in q) k 0 ≡ get_or q (k / 8) 0 / 2 ^ (k % 8) % 2
unfolding bits_in
bit_in [] k h = absurd (not-suc-le-zero h)
bit_in (x ∷ q) k h = go (bit_in q) (dec_lt k 8)
  where
    go : ((j : ℕ) → j < 8 * length q → get_or (bits_in q) j 0 ≡ get_or q (j / 8) 0 / 2 ^ (j % 8) % 2)
        → Dec (k < 8) → get_or (bits_of 8 x ++ bits_in q) k 0 ≡ get_or (x ∷ q) (k / 8) 0 / 2 ^ (k % 8) % 2
    go rec (yes l) =
        let d : k / 8 ≡ 0 = omega arith in
        let m : k % 8 ≡ k = omega arith in
        get_or-append (bits_of 8 x) (bits_in q) 0 k (omega (arith, length-bits 8 x)) ∙ bit-of 8 x k l ∙ sym (rw (d, m))
    go rec (no l) =
        let j : ℕ = k - 8 in
        let e : k ≡ 8 + j = omega arith in
        let d : k / 8 ≡ suc (j / 8) = omega arith in
        let m : k % 8 ≡ j % 8 = omega arith in
        ap (λ (i : ℕ). get_or (bits_of 8 x ++ bits_in q) i 0) (e ∙ ap (λ (n : ℕ). n + j) (sym (length-bits 8 x)))
        ∙ get_or-append-add (bits_of 8 x) (bits_in q) j 0 ∙ rec j (omega arith) ∙ sym (rw (d, m))

-- ---- pulses, with whatever stands behind them

length-sent : (bs : List ℕ) → length (sent bs) ≡ 2 * length bs
unfolding sent
length-sent [] = refl
length-sent (b ∷ bs) = omega (arith, length-sent bs)

even : (bs rest : List ℕ) (k : ℕ) → k < length bs → get_or (sent bs ++ rest) (2 * k) 0 ≡ pulse (get_or bs k 0)
unfolding sent
even [] rest k h = absurd (not-suc-le-zero h)
even (b ∷ bs) rest zero h = refl
even (b ∷ bs) rest (suc k) h =
    let e : 2 * suc k ≡ suc (suc (2 * k)) = omega arith in
    rw e (even bs rest k (le_of_suc-le-suc h))

odd : (bs rest : List ℕ) (k : ℕ) → k < length bs → get_or (sent bs ++ rest) (suc (2 * k)) 0 ≡ 0x30
unfolding sent
odd [] rest k h = absurd (not-suc-le-zero h)
odd (b ∷ bs) rest zero h = refl
odd (b ∷ bs) rest (suc k) h =
    let e : 2 * suc k ≡ suc (suc (2 * k)) = omega arith in
    rw e (odd bs rest k (le_of_suc-le-suc h))

tail : (bs rest : List ℕ) (k : ℕ) → get_or (sent bs ++ rest) (2 * length bs + k) 0 ≡ get_or rest k 0
tail bs rest k = rw (sym (length-sent bs)) (get_or-append-add (sent bs) rest k 0)

-- ---- a packet of sixteen bytes

module _ (q : List ℕ) (l : length q ≡ 16) where
  bits-128 : length (bits_in q) ≡ 128
  bits-128 = omega (arith, length-bits_in q)

  pub length-packet : length (packet_pulses q) ≡ 260
  unfolding packet_pulses
  length-packet = omega (arith, length-append (sent (bits_in q)) (0x20 ∷ 0x30 ∷ []), length-sent (bits_in q), bits-128)

  pub pulse-at : (k : ℕ) → k < 128 → get_or (packet_pulses q) (2 + 2 * k) 0 ≡ pulse (get_or q (k / 8) 0 / 2 ^ (k % 8) % 2)
  unfolding packet_pulses
  pulse-at k h =
      let e : 2 + 2 * k ≡ suc (suc (2 * k)) = omega arith in
      rw e (even (bits_in q) (0x20 ∷ 0x30 ∷ []) k (omega (arith, bits-128)) ∙ ap pulse (bit_in q k (omega arith)))

  pub release-at : (k : ℕ) → k < 128 → get_or (packet_pulses q) (suc (2 + 2 * k)) 0 ≡ 0x30
  unfolding packet_pulses
  release-at k h =
      let e : suc (2 + 2 * k) ≡ suc (suc (suc (2 * k))) = omega arith in
      rw e (odd (bits_in q) (0x20 ∷ 0x30 ∷ []) k (omega (arith, bits-128)))

  stop-at : (k : ℕ) → get_or (packet_pulses q) (258 + k) 0 ≡ get_or (0x20 ∷ 0x30 ∷ []) k 0
  unfolding packet_pulses
  stop-at k =
      let e : 258 + k ≡ suc (suc (2 * length (bits_in q) + k)) = omega (arith, bits-128) in
      rw e (tail (bits_in q) (0x20 ∷ 0x30 ∷ []) k)

  pub stop-pulse : get_or (packet_pulses q) 258 0 ≡ 0x20
  stop-pulse = stop-at 0

  pub last-release : get_or (packet_pulses q) 259 0 ≡ 0x30
  last-release = stop-at 1

-- ---- packets one after the other

pub length_pulses : (n : ℕ) (c : List ℕ) → 16 * n ≤ length c → length (pulses_of n c) ≡ 260 * n
unfolding pulses_of
length_pulses zero c h = refl
length_pulses (suc n) c h =
    let t : length (take 16 c) ≡ 16 = length-take-le 16 c (omega arith) in
    length-append (packet_pulses (take 16 c)) (pulses_of n (drop 16 c))
    ∙ omega (arith, length-packet (take 16 c) t, length_pulses n (drop 16 c) (omega (arith, length-drop 16 c)))

-- one packet more, at the end
pub one_more : (n : ℕ) (c : List ℕ) → pulses_of (suc n) c ≡ pulses_of n c ++ packet_pulses (take 16 (drop (16 * n) c))
unfolding pulses_of
one_more zero c = append-nil (packet_pulses (take 16 c))
one_more (suc n) c =
    let e : 16 + 16 * n ≡ 16 * suc n = omega arith in
    ap (λ (t : List ℕ). packet_pulses (take 16 c) ++ t) (one_more n (drop 16 c))
    ∙ sym (append_assoc (packet_pulses (take 16 c)) (pulses_of n (drop 16 c)) (packet_pulses (take 16 (drop (16 * n) (drop 16 c)))))
    ∙ ap (λ (t : List ℕ). packet_pulses (take 16 c) ++ pulses_of n (drop 16 c) ++ packet_pulses (take 16 t)) (drop-drop (16 * n) 16 c ∙ ap (λ (k : ℕ). drop k c) e)

-- ---- the pulse of a bit, as the code tests it

pub pulse-zero : (x : ℕ) → bit_and x 1 ≡ 0 → 0x20 ≡ pulse (x % 2)
unfolding pulse
pulse-zero x h = rw (sym (and_mask x 1) ∙ h)

pub pulse-one : (x : ℕ) → (bit_and x 1 ≡ 0 → ⊥) → 0x10 ≡ pulse (x % 2)
unfolding pulse
pulse-one x h =
    let f : x % 2 ≡ 0 → ⊥ = λ z. h (and_mask x 1 ∙ z) in
    let e : x % 2 ≡ 1 = omega (arith, f) in
    rw e
