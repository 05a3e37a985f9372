-- A list that is written from the front: two writes more of the packet's pulses, and at the end all 260.
use mathlib.Core.Path.{◌≡◌, refl, sym, ap, ap₂, ◌∙◌}
use mathlib.Core.List.{List, [], ◌∷◌, ◌++◌, append_assoc, append-nil}
use Prim.Native.Nat.{ℕ, suc, ◌+◌, ◌*◌, ◌/◌, ◌%◌, ◌^◌, ◌<◌, ◌≤◌}
use native.Mathlib.Nat.{not-suc-le-zero, le_of_suc-le-suc}
use native.Mathlib.Omega.{arith}
use lib.ListN.{length, get_or, set, take, drop, length-append, length-drop, drop_of_length-le}
use lib.Seq.{drop-cons, set_at, take-suc, append_snoc, length-take-le, take_all, take_at, drop_at, drop-drop}
use Rattle.bits.specs.Over.{over}
use Rattle.pulses.specs.Encode.{pulse, packet_pulses, pulses_of}
use Rattle.pulses.proofs.Packets.{length-packet, pulse-at, release-at, stop-pulse, last-release, length_pulses, one_more}

-- the first n elements of e, and then those of o
abbrev pub front : List ℕ → List ℕ → ℕ → List ℕ
front e o n = take n e ++ drop n o

front-suc : (e o : List ℕ) (n v : ℕ) → n < length e → n < length o → v ≡ get_or e n 0 → set (front e o n) n v ≡ front e o (suc n)
front-suc e o n v he ho h =
    ap₂ (λ (t : List ℕ) (a : ℕ). set (take n e ++ t) n a) (drop-cons o n 0 ho) h
    ∙ set_at (take n e) (get_or o n 0) (drop (suc n) o) (get_or e n 0) n (length-take-le n e (omega arith))
    ∙ sym (append_snoc (take n e) (get_or e n 0) (drop (suc n) o))
    ∙ ap (λ (t : List ℕ). t ++ drop (suc n) o) (sym (take-suc e n 0 he))

front-two : (e o : List ℕ) (n v w : ℕ) → n + 1 < length e → n + 1 < length o → v ≡ get_or e n 0 → w ≡ get_or e (suc n) 0
    → set (set (front e o n) n v) (suc n) w ≡ front e o (suc (suc n))
front-two e o n v w he ho hv hw =
    ap (λ (t : List ℕ). set t (suc n) w) (front-suc e o n v (omega arith) (omega arith) hv)
    ∙ front-suc e o (suc n) w (omega arith) (omega arith) hw

-- ---- a packet

two : (d : List ℕ) (a b : ℕ) → 2 ≤ length d → set (set d 0 a) 1 b ≡ a ∷ b ∷ drop 2 (set (set d 0 a) 1 b)
two [] a b h = absurd (not-suc-le-zero h)
two (x ∷ []) a b h = absurd (not-suc-le-zero (le_of_suc-le-suc h))
two (x ∷ y ∷ d) a b h = refl

pub starts : (q d : List ℕ) → length d ≡ 260 → set (set d 0 0x00) 1 0x30 ≡ front (packet_pulses q) (set (set d 0 0x00) 1 0x30) 2
unfolding packet_pulses
starts q d m = two d 0x00 0x30 (omega arith)

module _ (q o : List ℕ) (l : length q ≡ 16) (m : length o ≡ 260) where
  pub turns : (out : List ℕ) (k v : ℕ) → k < 128 → v ≡ pulse (get_or q (k / 8) 0 / 2 ^ (k % 8) % 2)
      → out ≡ front (packet_pulses q) o (2 + 2 * k) → set (set out (2 + 2 * k) v) (3 + 2 * k) 0x30 ≡ front (packet_pulses q) o (2 + 2 * (k + 1))
  turns out k v h hv e =
      let x : 3 + 2 * k ≡ suc (2 + 2 * k) = omega arith in
      let y : suc (suc (2 + 2 * k)) ≡ 2 + 2 * (k + 1) = omega arith in
      ap₂ (λ (t : List ℕ) (i : ℕ). set (set t (2 + 2 * k) v) i 0x30) e x
      ∙ front-two (packet_pulses q) o (2 + 2 * k) v 0x30 (omega (arith, length-packet q l)) (omega arith)
      (hv ∙ sym (pulse-at q l k h)) (sym (release-at q l k h))
      ∙ ap (front (packet_pulses q) o) y

  pub stops : (out : List ℕ) → out ≡ front (packet_pulses q) o 258 → set (set out 258 0x20) 259 0x30 ≡ packet_pulses q
  stops out e =
      ap (λ (t : List ℕ). set (set t 258 0x20) 259 0x30) e
      ∙ front-two (packet_pulses q) o 258 0x20 0x30 (omega (arith, length-packet q l)) (omega arith)
      (sym (stop-pulse q l)) (sym (last-release q l))
      ∙ ap₂ (λ (a b : List ℕ). a ++ b) (take_all 260 (packet_pulses q) (omega (arith, length-packet q l)))
      (drop_of_length-le o {i = 260} (omega arith))
      ∙ append-nil (packet_pulses q)

-- ---- packets: the p-th goes behind those before it

pub next-packet : (c o out : List ℕ) (p : ℕ) → 16 * (p + 1) ≤ length c → 260 * (p + 1) ≤ length o
    → out ≡ pulses_of p c ++ drop (260 * p) o
    → over (260 * p) 260 (packet_pulses (take 16 (drop (16 * p) c))) out ≡ pulses_of (p + 1) c ++ drop (260 * (p + 1)) o
next-packet c o out p h k e =
    let x : List ℕ = packet_pulses (take 16 (drop (16 * p) c)) in
    let l : length (pulses_of p c) ≡ 260 * p = length_pulses p c (omega arith) in
    let n : p + 1 ≡ suc p = omega arith in
    let y : 260 * p + 260 ≡ 260 * (p + 1) = omega arith in
    ap (over (260 * p) 260 x) e
    ∙ ap₂ (λ (a b : List ℕ). a ++ (x ++ drop 260 b)) (take_at (pulses_of p c) (drop (260 * p) o) (260 * p) l) (drop_at (pulses_of p c) (drop (260 * p) o) (260 * p) l)
    ∙ sym (append_assoc (pulses_of p c) x (drop 260 (drop (260 * p) o)))
    ∙ ap₂ (λ (a b : List ℕ). a ++ b) (sym (one_more p c) ∙ ap (λ (j : ℕ). pulses_of j c) (sym n)) (drop-drop 260 (260 * p) o ∙ ap (λ (j : ℕ). drop j o) y)

pub length_so_far : (c o : List ℕ) (p : ℕ) → 16 * p ≤ length c → 260 * p ≤ length o → length (pulses_of p c ++ drop (260 * p) o) ≡ length o
length_so_far c o p h k =
    length-append (pulses_of p c) (drop (260 * p) o) ∙ omega (arith, length_pulses p c h, length-drop (260 * p) o)

-- as the code's turn has it: the parts lent are 16 and 260 long
pub next_turn : (c o out x : List ℕ) (p a k : ℕ) → a ≡ 16 → k ≡ 260 → x ≡ packet_pulses (take a (drop (16 * p) c))
    → 16 * (p + 1) ≤ length c → 260 * (p + 1) ≤ length o → out ≡ pulses_of p c ++ drop (260 * p) o
    → over (260 * p) k x out ≡ pulses_of (p + 1) c ++ drop (260 * (p + 1)) o
next_turn c o out x p a k ha hk hx h m e =
    ap₂ (λ (j : ℕ) (y : List ℕ). over (260 * p) j y out) hk (hx ∙ ap (λ (j : ℕ). packet_pulses (take j (drop (16 * p) c))) ha)
    ∙ next-packet c o out p h m e
