-- V1 to V6 of the block that a state gives are told by its front: V1 to V5 ask of nothing else, and of V6 the rest holds, since the capture of a
-- state is zeros where none is there.
use mathlib.Core.Path.{◌≡◌, refl, sym, ap, ◌∙◌}
use mathlib.Core.Bool.{true, cond}
use mathlib.Core.List.{List, [], ◌++◌}
use mathlib.Core.Option.{Option, none, some}
use Prim.Native.Nat.{ℕ, zero, suc, ◌+◌, ◌≤◌, ◌<◌}
use native.Mathlib.Omega.{arith}
use lib.Dec.{lit<, lit≤, eqb}
use lib.ListN.{length, take, drop, replicate, length-drop, get_or-append}
use lib.Seq.{take-append-le, drop-append-le}
use Rattle.bits.specs.Over.{part}
use Rattle.receiver.specs.declared.Stage.{Stage}
use Rattle.receiver.specs.declared.Stage.TheVariants.{Idle, Receiving, Awaiting}
use Rattle.broken.specs.Broken.{asked, zero_in, zero_from, resting, coming, first, between, later, asks_of, asks1, asks2, asks3, asks4, asks5, asks6, byte_of, lower, lowest, broken_or, first_of, broken, broken_number}
use Rattle.layout.specs.Block.{byte, stage_of, is_held, flat}
use Rattle.layout.specs.Valid.{mask_allows}
use Rattle.parts.specs.Parts.{mask_at, index_at, pads_at, p15_at, both_at, stage_at, expected_at, received_at, bits_at, preset_on_at, countdown_at, kind_at, frozen_on_at, spare_at, spare_bytes, packet_at, packet_bytes, store_at, store_bytes, preset_at, preset_bytes, palettes_at, capture_bytes, frozen_at}
use Rattle.state_spans.specs.State.{State}
use Rattle.state_spans.specs.Coming.{fits, front_from, frozen_from, parts_from, block_from}
use Rattle.state_spans.proofs.Blocks.{block-part, front-sized}
use Rattle.state_in.specs.Front.{asks_mask, front_number}

-- ---- a front f, and whatever stands behind it

module _ (f r : List ℕ) (e : length f ≡ palettes_at) where
  byte-front : (at : ℕ) → at < palettes_at → byte at (f ++ r) ≡ byte at f
  byte-front at h = get_or-append f r 0 at (omega (arith, e))

  part-front : (at n : ℕ) → at + n ≤ palettes_at → part at n (f ++ r) ≡ part at n f
  part-front at n h =
      let le : at ≤ length f = omega (arith, e) in
      let fits : n ≤ length (drop at f) = simp length-drop (omega (arith, e)) in
      ap (λ (l : List ℕ). take n l) (drop-append-le at f r le) ∙ take-append-le n (drop at f) r fits

  asks1-front : asks1 (f ++ r) ≡ asks1 f
  unfolding asks1
  asks1-front = rw (byte-front mask_at (lit< tt), byte-front index_at (lit< tt), byte-front pads_at (lit< tt))

  asks2-front : asks2 (f ++ r) ≡ asks2 f
  unfolding asks2
  asks2-front =
      rw (byte-front p15_at (lit< tt), byte-front both_at (lit< tt), byte-front preset_on_at (lit< tt), byte-front frozen_on_at (lit< tt), part-front spare_at spare_bytes (lit≤ tt))

  resting-front : resting (f ++ r) ≡ resting f
  unfolding resting
  resting-front =
      rw (byte-front expected_at (lit< tt), byte-front received_at (lit< tt), byte-front bits_at (lit< tt), part-front packet_at packet_bytes (lit≤ tt), part-front store_at store_bytes (lit≤ tt))

  coming-front : coming (f ++ r) ≡ coming f
  unfolding coming
  coming-front = rw (byte-front bits_at (lit< tt), part-front packet_at packet_bytes (lit≤ tt))

  first-front : first (f ++ r) ≡ first f
  unfolding first
  first-front = rw (byte-front expected_at (lit< tt), part-front store_at store_bytes (lit≤ tt))

  between-front : between (f ++ r) ≡ between f
  unfolding between
  between-front = rw (byte-front bits_at (lit< tt), part-front packet_at packet_bytes (lit≤ tt))

  later-front : later (f ++ r) ≡ later f
  unfolding later
  later-front =
      rw (byte-front received_at (lit< tt), byte-front expected_at (lit< tt), byte-front store_at (lit< tt), part-front store_at store_bytes (lit≤ tt))

  asksOf-front : (s : Stage) → asks_of s (f ++ r) ≡ asks_of s f
  unfolding asks_of
  asksOf-front Idle = resting-front
  asksOf-front Receiving = rw (coming-front, first-front, later-front, byte-front received_at (lit< tt))
  asksOf-front Awaiting = rw (between-front, later-front)

  asks3-front : asks3 (f ++ r) ≡ asks3 f
  unfolding asks3
  asks3-front = rw (byte-front stage_at (lit< tt), part-front packet_at packet_bytes (lit≤ tt), asksOf-front (stage_of (byte stage_at f)))

  asks4-front : asks4 (f ++ r) ≡ asks4 f
  unfolding asks4
  asks4-front = rw (byte-front countdown_at (lit< tt), byte-front kind_at (lit< tt))

  asks5-front : asks5 (f ++ r) ≡ asks5 f
  unfolding asks5
  asks5-front = rw (byte-front preset_on_at (lit< tt), part-front preset_at preset_bytes (lit≤ tt))

-- ---- V6

lowest-zeros : (at n : ℕ) → lowest (zero_from at (replicate n 0)) ≡ none
unfolding lowest zero_from byte_of lower
lowest-zeros at zero = refl
lowest-zeros at (suc n) = lowest-zeros (suc at) n

-- a capture that is not there is zeros
capture-clear : (o : Option (List ℕ)) (l : List ℕ) → l ≡ frozen_from o → lowest (cond (eqb (is_held o) 0) (zero_from frozen_at l) []) ≡ none
unfolding is_held frozen_from lowest
capture-clear none l e = ap (λ (x : List ℕ). lowest (zero_from frozen_at x)) e ∙ lowest-zeros frozen_at capture_bytes
capture-clear (some x) l e = refl

-- ---- the whole

module _ (s : State) (h : fits s ≡ true) where
  abbrev front : List ℕ
  front = front_from s.fields (is_held s.frozen_capture) s.packet s.packets s.preset

  abbrev behind : List ℕ
  behind = flat (drop 1 (parts_from s))

  frozen-byte : byte frozen_on_at (front ++ behind) ≡ is_held s.frozen_capture
  unfolding front_from
  frozen-byte = refl

  frozen-part : part frozen_at capture_bytes (front ++ behind) ≡ frozen_from s.frozen_capture
  frozen-part = unfold block_from in block-part s h 6 (lit< tt)

  capture-holds : lowest (cond (eqb (byte frozen_on_at (front ++ behind)) 0) (zero_in frozen_at capture_bytes (front ++ behind)) []) ≡ none
  capture-holds =
      ap (λ (n : ℕ). lowest (cond (eqb n 0) (zero_in frozen_at capture_bytes (front ++ behind)) [])) frozen-byte
      ∙ capture-clear s.frozen_capture (part frozen_at capture_bytes (front ++ behind)) frozen-part

  sixth : lowest (asks_mask front) ≡ lowest (asks6 (front ++ behind))
  unfolding lowest asks6
  sixth =
      let e = front-sized s h in
      λ t.
      lower (byte_of (asked mask_at (mask_allows (sym (byte-front front behind e mask_at (lit< tt)) t) (sym (byte-front front behind e frozen_on_at (lit< tt)) t))))
      (sym capture-holds t)

  pub front-number : front_number front ≡ broken_number (broken (block_from s))
  unfolding front_number broken block_from first_of
  front-number =
      let e = front-sized s h in
      λ t.
      broken_number
      (broken_or 1 (lowest (sym (asks1-front front behind e) t))
      (broken_or 2 (lowest (sym (asks2-front front behind e) t))
      (broken_or 3 (lowest (sym (asks3-front front behind e) t))
      (broken_or 4 (lowest (sym (asks4-front front behind e) t)) (broken_or 5 (lowest (sym (asks5-front front behind e) t)) (broken_or 6 (sixth t) none))))))
