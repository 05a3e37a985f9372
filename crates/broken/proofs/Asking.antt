-- Each rule is what its list asks: all of it is so exactly if the rule's test holds (`Valid` of the crate `layout`).
use Prim.Native.Nat.{ℕ, zero, suc, ◌+◌, ◌-◌, ◌*◌, ◌/◌, ◌^◌, ◌≤◌, ◌<◌}
use native.Mathlib.Omega.{arith}
use mathlib.Core.Path.{◌≡◌, refl, sym, ap, ◌∙◌}
use mathlib.Core.Bool.{Bool, true, false, cond, ◌&&◌, ◌||◌}
use mathlib.Core.List.{List, [], ◌∷◌, ◌++◌}
use borrow.Author.Tests.{eq-eqb, ne_eqb, eqb-true, eqb-false, lt-ltb, ltb-true, le-leb, lt-leb, leb-true, leb-false}
use lib.Bits.{bit_and}
use lib.Dec.{eqb, leb, ltb, lit<}
use lib.ListN.{get_or, drop}
use lib.Pow.{are_bytes, pow-add, pow_mono, pow_pos}
use Rattle.bits.specs.Over.{part}
use Rattle.bits.specs.Zero.{zeros}
use Rattle.bits.proofs.Masks.{shifted_out}
use Rattle.bits.proofs.Overs.{get_or-part}
use Rattle.bits.proofs.Tests.{and_left, and_right, and-true, and_assoc, and_yes, same_test, same-ltb, or-false}
use Rattle.parts.specs.Parts.{mask_at, index_at, pads_at, p15_at, both_at, stage_at, expected_at, received_at, bits_at, preset_on_at, countdown_at, kind_at, frozen_on_at, spare_at, spare_bytes, packet_at, packet_bytes, store_at, store_bytes, preset_at, preset_bytes, capture_bytes, frozen_at}
use Rattle.receiver.specs.Count.{count_of}
use Rattle.receiver.specs.Valid as receiver
use Rattle.receiver.specs.declared.Stage.{Stage}
use Rattle.receiver.specs.declared.Stage.TheVariants.{Idle, Receiving, Awaiting}
use Rattle.layout.specs.Block.{byte, is_set, stage_of, value_of}
use Rattle.layout.specs.Valid.{receiver_in, store_in, v1, v2, v3, v4, v5, v6, mask_allows}
use Rattle.broken.specs.Broken.{Asked, asked, zero_from, zero_in, asks1, asks2, resting, clear_from, coming, first, between, later, asks_of, asks3, asks4, asks5, asks6}
use Rattle.broken.proofs.Lowest.{all_hold, hold-append, hold-zero}

pub asks1_are : (b : List ℕ) → all_hold (asks1 b) ≡ v1 b
unfolding asks1 v1 all_hold
asks1_are b = go (leb (byte mask_at b) 3) (eqb (bit_and (byte index_at b) (byte pads_at b)) (byte index_at b)) (leb (byte pads_at b) 3)
  where
    go : (m i p : Bool) → (m && (i && (p && true))) ≡ (m && (p && i))
    go false i p = refl
    go true false false = refl
    go true false true = refl
    go true true false = refl
    go true true true = refl

pub asks2_are : (b : List ℕ) → all_hold (asks2 b) ≡ v2 b
unfolding asks2 v2 all_hold
asks2_are b = rw (hold-zero spare_at (part spare_at spare_bytes b))

-- a part of which zeros are asked only where its flag is off
where_off : (off : Bool) (at : ℕ) (l : List ℕ) → all_hold (cond off (zero_from at l) []) ≡ cond off (zeros l) true
unfolding all_hold
where_off true at l = hold-zero at l
where_off false at l = refl

-- ---- V3

-- bits at an index and past it: none is set exactly if the number of the bytes is below that power of two
clear_turn : (n x v : ℕ) → x < 256 → (eqb (x / 2 ^ n) 0 && ltb v (2 ^ (n - 8))) ≡ ltb (x + 256 * v) (2 ^ n)
clear_turn n x v h = go (leb 8 n) refl
  where
    few : n < 8 → (ltb x (2 ^ n) && ltb v (2 ^ (n - 8))) ≡ ltb (x + 256 * v) (2 ^ n)
    few l =
        let z : n - 8 ≡ 0 = omega arith in
        let top : 2 ^ n ≤ 2 ^ 7 = pow_mono {i = n} {j = 7} (omega arith) in
        rw z
        (same_test (ltb x (2 ^ n) && ltb v 1) (ltb (x + 256 * v) (2 ^ n))
        (λ e.
        let p = ltb-true x (2 ^ n) (and_left (ltb x (2 ^ n)) (ltb v 1) e) in
        let q = ltb-true v 1 (and_right (ltb x (2 ^ n)) (ltb v 1) e) in
        lt-ltb (x + 256 * v) (2 ^ n) (omega arith))
        (λ e.
        let p = ltb-true (x + 256 * v) (2 ^ n) e in
        and-true (ltb x (2 ^ n)) (ltb v 1) (lt-ltb x (2 ^ n) (omega arith)) (lt-ltb v 1 (omega arith))))

    many : 8 ≤ n → (ltb x (2 ^ n) && ltb v (2 ^ (n - 8))) ≡ ltb (x + 256 * v) (2 ^ n)
    many l =
        let s : (n - 8) + 8 ≡ n = omega arith in
        let p : 2 ^ n ≡ 2 ^ (n - 8) * 256 = ap (λ (j : ℕ). 2 ^ j) (sym s) ∙ pow-add 2 (n - 8) 8 in
        let top : 2 ^ 8 ≤ 2 ^ n = pow_mono {i = 8} {j = n} l in
        rw (lt-ltb x (2 ^ n) (omega arith)) (same-ltb v (2 ^ (n - 8)) (x + 256 * v) (2 ^ n) (λ g. omega arith) (λ g. omega arith))

    go : (t : Bool) → leb 8 n ≡ t → (eqb (x / 2 ^ n) 0 && ltb v (2 ^ (n - 8))) ≡ ltb (x + 256 * v) (2 ^ n)
    go true e = rw (shifted_out x n) (many (leb-true 8 n e))
    go false e = rw (shifted_out x n) (few (leb-false 8 n e))

pub clear-holds : (n at : ℕ) (l : List ℕ) → are_bytes l ≡ true → all_hold (clear_from n at l) ≡ ltb (value_of l) (2 ^ n)
unfolding clear_from all_hold value_of
clear-holds n at [] e = sym (lt-ltb 0 (2 ^ n) (pow_pos n))
clear-holds n at (x ∷ l) e =
    let h = ltb-true x 256 (and_left (ltb x 256) (are_bytes l) e) in
    ap (λ t. eqb (x / 2 ^ n) 0 && t) (clear-holds (n - 8) (suc at) l (and_right (ltb x 256) (are_bytes l) e)) ∙ clear_turn n x (value_of l) h

-- nothing is set from the first bit on
all-clear : (at : ℕ) (l : List ℕ) → zero_from at l ≡ clear_from 0 at l
unfolding zero_from clear_from
all-clear at [] = refl
all-clear at (x ∷ l) = let d : x ≡ x / 1 = omega arith in λ t. record { at = at; holds = eqb (d t) 0 } ∷ all-clear (suc at) l t

pub zero-holds : (at : ℕ) (l : List ℕ) → are_bytes l ≡ true → zeros l ≡ eqb (value_of l) 0
zero-holds at l e =
    sym (hold-zero at l) ∙ ap all_hold (all-clear at l) ∙ clear-holds 0 at l e
    ∙ same_test (ltb (value_of l) 1) (eqb (value_of l) 0) (λ h. let k = ltb-true (value_of l) 1 h in eq-eqb (value_of l) 0 (omega arith))
    (λ h. let k = eqb-true (value_of l) 0 h in lt-ltb (value_of l) 1 (omega arith))

module _ (b : List ℕ) (e : are_bytes (part packet_at packet_bytes b) ≡ true) where
  resting-are : all_hold (resting b) ≡ receiver.v3_at Idle (receiver_in b) (store_in b)
  unfolding resting all_hold receiver.v3_at
  resting-are =
      rw (hold-append (zero_in packet_at packet_bytes b) (zero_in store_at store_bytes b), hold-zero packet_at (part packet_at packet_bytes b), hold-zero store_at (store_in b), zero-holds packet_at (part packet_at packet_bytes b) e)

  coming-are : all_hold (coming b) ≡ (leb (byte bits_at b) 128 && ltb (value_of (part packet_at packet_bytes b)) (2 ^ byte bits_at b))
  unfolding coming all_hold
  coming-are = rw (clear-holds (byte bits_at b) packet_at (part packet_at packet_bytes b) e)

  between-are : all_hold (between b) ≡ (eqb (byte bits_at b) 0 && eqb (value_of (part packet_at packet_bytes b)) 0)
  unfolding between all_hold
  between-are = rw (hold-zero packet_at (part packet_at packet_bytes b), zero-holds packet_at (part packet_at packet_bytes b) e)

  first-are : all_hold (first b) ≡ (eqb (byte expected_at b) 0 && zeros (store_in b))
  unfolding first all_hold
  first-are = rw (hold-zero store_at (store_in b))

  later-are : all_hold (later b) ≡ receiver.later (byte expected_at b) (byte received_at b) (store_in b)
  unfolding later all_hold receiver.later
  later-are =
      rw (hold-zero (store_at + 16 * byte received_at b) (drop (16 * byte received_at b) (store_in b)), get_or-part store_at store_bytes b 0 (lit< tt))

  asks-of-are : (s : Stage) → all_hold (asks_of s b) ≡ receiver.v3_at s (receiver_in b) (store_in b)
  unfolding asks_of receiver.v3_at
  asks-of-are Idle = resting-are
  asks-of-are Receiving =
      hold-append (coming b) (cond (eqb (byte received_at b) 0) (first b) (later b))
      ∙ ap (λ t. t && all_hold (cond (eqb (byte received_at b) 0) (first b) (later b))) coming-are
      ∙ and_assoc (leb (byte bits_at b) 128) _ _
      ∙ go (eqb (byte received_at b) 0)
    where
      go : (t : Bool) → (leb (byte bits_at b) 128 && (ltb (value_of (part packet_at packet_bytes b)) (2 ^ byte bits_at b) && all_hold (cond t (first b) (later b))))
          ≡ (leb (byte bits_at b) 128 && (ltb (value_of (part packet_at packet_bytes b)) (2 ^ byte bits_at b) && cond t (eqb (byte expected_at b) 0 && zeros (store_in b)) (receiver.later (byte expected_at b) (byte received_at b) (store_in b))))
      go true = rw first-are
      go false = rw later-are
  asks-of-are Awaiting = hold-append (between b) (later b) ∙ ap (λ t. t && all_hold (later b)) between-are ∙ and_assoc (eqb (byte bits_at b) 0) _ _ ∙ rw later-are

pub asks3_are : (b : List ℕ) → all_hold (asks3 b) ≡ v3 b
unfolding asks3 v3 receiver.v3 all_hold
asks3_are b = go (leb (byte stage_at b) 2) (are_bytes (part packet_at packet_bytes b)) refl
  where
    go : (t u : Bool) → are_bytes (part packet_at packet_bytes b) ≡ u
        → all_hold (cond t (asked packet_at u ∷ asks_of (stage_of (byte stage_at b)) b) (asked stage_at false ∷ []))
        ≡ (t && (u && receiver.v3 (receiver_in b) (store_in b)))
    go true true e = asks-of-are b e (stage_of (byte stage_at b))
    go true false e = refl
    go false u e = refl

-- ---- V4 to V6

pub asks4_are : (b : List ℕ) → all_hold (asks4 b) ≡ v4 b
unfolding asks4 v4 all_hold
asks4_are b = go (byte countdown_at b) (eqb (byte kind_at b) 0) (leb (byte kind_at b) 4)
  where
    go : (c : ℕ) (z k : Bool) → (leb c 3 && (cond (eqb c 0) z k && true)) ≡ ((eqb c 0 && z) || (leb 1 c && (leb c 3 && k)))
    go zero true k = refl
    go zero false k = refl
    go (suc c) z k = rw (ne_eqb (suc c) 0 (λ e. omega arith), le-leb 1 (suc c) (omega arith), and_yes k)

pub asks5_are : (b : List ℕ) → all_hold (asks5 b) ≡ v5 b
unfolding asks5 v5
asks5_are b = where_off (eqb (byte preset_on_at b) 0) preset_at (part preset_at preset_bytes b)

pub asks6_are : (b : List ℕ) → all_hold (asks6 b) ≡ v6 b
unfolding asks6 v6 all_hold
asks6_are b = rw (where_off (eqb (byte frozen_on_at b) 0) frozen_at (part frozen_at capture_bytes b))
