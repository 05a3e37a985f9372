-- A valid block loads and saves to itself, and a good unit saves and loads to itself: each field and its bytes tell each other (`Fields`),
-- and the parts are the whole (`Cut`).
use mathlib.Core.Path.{◌≡◌, sym, ap, ◌∙◌}
use mathlib.Core.Bool.{true, ◌&&◌, cond}
use mathlib.Core.List.{List, [], ◌∷◌}
use Prim.Native.Nat.{ℕ, ◌+◌, ◌<◌, ◌≤◌}
use native.Mathlib.Omega.{arith}
use borrow.Author.Tests.{eqb-true}
use lib.Dec.{lit<, lit≤, eqb, leb}
use lib.ListN.{length, take}
use Rattle.bits.specs.Over.{part}
use lib.Pow.{are_bytes}
use Rattle.bits.specs.Zero.{zeros}
use Rattle.receiver.specs.Store.{bytes_of}
use Rattle.bits.proofs.Overs.{length_part, get_or-part}
use Rattle.bits.proofs.Tests.{and_left, and_right}
use Rattle.bits.proofs.Zeros.{zeros_at}
use Rattle.parts.specs.Parts.{block_bytes, mask_at, index_at, pads_at, p15_at, both_at, stage_at, expected_at, received_at, bits_at, preset_on_at, countdown_at, kind_at, frozen_on_at, spare_at, spare_bytes, header_bytes, packet_at, packet_bytes, store_at, store_bytes, preset_at, preset_bytes, palettes_at, palettes_bytes, map_at, map_bytes, system_at, system_bytes, files_at, files_bytes, live_at, capture_bytes, frozen_at, tiles_at, tiles_bytes, border_map_at, border_map_bytes, border_palettes_at, border_palettes_bytes, sizes}
use Rattle.layout.specs.Block.{byte, is_set, value_of, held, load, save, flat, header, held_bytes}
use Rattle.layout.specs.Valid.{v1, v2, v3, v4, v5, v6, mask_allows, valid_parts, valid}
use Rattle.layout.proofs.Cut.{flat-cut, heads-eq}
use Rattle.layout.proofs.Fields.{flag_of-set, number_of-stage, bytes_of-value, held_number, held_bytes-held, pending-bytes}

-- what a valid block is, by name
pub record Clauses (b : List ℕ) : Type 0 where
  pub long : length b ≡ block_bytes
  pub one : v1 b ≡ true
  pub two : v2 b ≡ true
  pub three : v3 b ≡ true
  pub four : v4 b ≡ true
  pub five : v5 b ≡ true
  pub six : v6 b ≡ true

pub clauses : (b : List ℕ) → valid b ≡ true → Clauses b
unfolding valid valid_parts
clauses b e =
    let p : (v1 b && (v2 b && (v3 b && (v4 b && (v5 b && v6 b))))) ≡ true = and_right (eqb (length b) block_bytes) _ e in
    let q : (v2 b && (v3 b && (v4 b && (v5 b && v6 b)))) ≡ true = and_right (v1 b) _ p in
    let r : (v3 b && (v4 b && (v5 b && v6 b))) ≡ true = and_right (v2 b) _ q in
    let s : (v4 b && (v5 b && v6 b)) ≡ true = and_right (v3 b) _ r in
    let t : (v5 b && v6 b) ≡ true = and_right (v4 b) _ s in
    record {
      long = eqb-true (length b) block_bytes (and_left (eqb (length b) block_bytes) _ e);
      one = and_left (v1 b) _ p;
      two = and_left (v2 b) _ q;
      three = and_left (v3 b) _ r;
      four = and_left (v4 b) _ s;
      five = and_left (v5 b) _ t;
      six = and_right (v5 b) (v6 b) t;
    }

-- V2, by name
pub record Flags (b : List ℕ) : Type 0 where
  pub p15 : leb (byte p15_at b) 1 ≡ true
  pub both : leb (byte both_at b) 1 ≡ true
  pub preset : leb (byte preset_on_at b) 1 ≡ true
  pub frozen : leb (byte frozen_on_at b) 1 ≡ true
  pub lines : cond (is_set (byte both_at b)) (is_set (byte p15_at b)) true ≡ true
  pub spare : zeros (part spare_at spare_bytes b) ≡ true

flags : (b : List ℕ) → v2 b ≡ true → Flags b
unfolding v2
flags b e =
    let q = and_right (leb (byte p15_at b) 1) _ e in
    let r = and_right (leb (byte both_at b) 1) _ q in
    let s = and_right (leb (byte preset_on_at b) 1) _ r in
    let t = and_right (leb (byte frozen_on_at b) 1) _ s in
    record {
      p15 = and_left (leb (byte p15_at b) 1) _ e;
      both = and_left (leb (byte both_at b) 1) _ q;
      preset = and_left (leb (byte preset_on_at b) 1) _ r;
      frozen = and_left (leb (byte frozen_on_at b) 1) _ s;
      lines = and_left (cond (is_set (byte both_at b)) (is_set (byte p15_at b)) true) _ t;
      spare = and_right (cond (is_set (byte both_at b)) (is_set (byte p15_at b)) true) _ t;
    }

-- ---- a valid block

pub long-part : (b : List ℕ) → length b ≡ block_bytes → (at n : ℕ) → at + n ≤ block_bytes → length (part at n b) ≡ n
long-part b long at n h = length_part at n b (omega arith)

module _ (b : List ℕ) (c : Clauses b) where
  pub two : Flags b
  two = flags b c.two

  spare-at : (k : ℕ) → k < spare_bytes → 0 ≡ byte (spare_at + k) b
  spare-at k h = sym (zeros_at (part spare_at spare_bytes b) two.spare k) ∙ get_or-part spare_at spare_bytes b k h

  stage-small : leb (byte stage_at b) 2 ≡ true
  stage-small = unfold v3 in and_left (leb (byte stage_at b) 2) _ c.three

  packet-bytes : are_bytes (part packet_at packet_bytes b) ≡ true
  packet-bytes = unfold v3 in and_left (are_bytes (part packet_at packet_bytes b)) _ (and_right (leb (byte stage_at b) 2) _ c.three)

  header-back : header (load b) ≡ part 0 header_bytes b
  header-back =
      unfold load in
      (λ t.
      byte mask_at b ∷ byte index_at b ∷ byte pads_at b ∷ flag_of-set (byte p15_at b) two.p15 t ∷ flag_of-set (byte both_at b) two.both t
      ∷ number_of-stage (byte stage_at b) stage-small t ∷ byte expected_at b ∷ byte received_at b ∷ byte bits_at b
      ∷ held_number (byte preset_on_at b) (part preset_at preset_bytes b) two.preset t
      ∷ (pending-bytes (byte countdown_at b) (byte kind_at b) (unfold v4 in c.four)).0 t
      ∷ (pending-bytes (byte countdown_at b) (byte kind_at b) (unfold v4 in c.four)).1 t
      ∷ held_number (byte frozen_on_at b) (part frozen_at capture_bytes b) two.frozen t
      ∷ spare-at 0 (lit< tt) t ∷ spare-at 1 (lit< tt) t ∷ spare-at 2 (lit< tt) t ∷ [])
      ∙ ap (take 16) (heads-eq 16 0 b (omega (arith, c.long)))

  packet-back : bytes_of packet_bytes (value_of (part packet_at packet_bytes b)) ≡ part packet_at packet_bytes b
  packet-back =
      ap (λ (n : ℕ). bytes_of n (value_of (part packet_at packet_bytes b))) (sym (long-part b c.long packet_at packet_bytes (lit≤ tt)))
      ∙ bytes_of-value (part packet_at packet_bytes b) packet-bytes

  preset-back : held_bytes preset_bytes (held (byte preset_on_at b) (part preset_at preset_bytes b)) ≡ part preset_at preset_bytes b
  preset-back = held_bytes-held preset_bytes (byte preset_on_at b) (part preset_at preset_bytes b) (long-part b c.long preset_at preset_bytes (lit≤ tt)) two.preset (unfold v5 in c.five)

  frozen-back : held_bytes capture_bytes (held (byte frozen_on_at b) (part frozen_at capture_bytes b)) ≡ part frozen_at capture_bytes b
  frozen-back =
      held_bytes-held capture_bytes (byte frozen_on_at b) (part frozen_at capture_bytes b) (long-part b c.long frozen_at capture_bytes (lit≤ tt)) two.frozen
      (unfold v6 in and_right (mask_allows (byte mask_at b) (byte frozen_on_at b)) _ c.six)

  pub save-load : save (load b) ≡ b
  save-load =
      unfold save load in
      (λ t.
      flat
      (header-back t ∷ packet-back t ∷ part store_at store_bytes b ∷ preset-back t ∷ part palettes_at palettes_bytes b ∷ part map_at map_bytes b
      ∷ part system_at system_bytes b ∷ part files_at files_bytes b ∷ part live_at capture_bytes b ∷ frozen-back t ∷ part tiles_at tiles_bytes b
      ∷ part border_map_at border_map_bytes b ∷ part border_palettes_at border_palettes_bytes b ∷ []))
      ∙ flat-cut 0 sizes b (sym c.long)
