-- A valid block holds a good unit, and a good unit makes a valid block, which loads as that unit again.
use mathlib.Core.Path.{◌≡◌, refl, ap, ◌∙◌}
use mathlib.Core.Bool.{true, ◌&&◌, cond}
use mathlib.Core.List.{List, [], ◌∷◌, map}
use Prim.Native.Nat.{ℕ, ◌^◌, ◌<◌, ◌≤◌}
use native.Mathlib.Nat.{lt_of_lt_of_le}
use borrow.Author.Tests.{eqb-true, leb-true, eq-eqb, le-leb}
use lib.Dec.{lit<, lit≤, eqb, leb}
use lib.Bits.{bit_and}
use lib.ListN.{length, take, get_or}
use lib.Pow.{are_bytes, pow_mono}
use Rattle.bits.specs.Over.{part}
use Rattle.bits.specs.Zero.{zeros}
use Rattle.bits.proofs.Tests.{and_left, and_right, and-true}
use Rattle.receiver.specs.Receive.{Rx}
use Rattle.receiver.specs.Valid.{V3At, v3 as receiverValid}
use Rattle.receiver.specs.declared.Stage.{Stage}
use Rattle.receiver.specs.declared.Stage.TheVariants.{Idle, Receiving, Awaiting}
use Rattle.receiver.proofs.Checks.{v3_says, v3-true}
use Rattle.receiver.proofs.Words.{length-bytes}
use Rattle.parts.specs.Parts.{block_bytes, mask_at, index_at, pads_at, stage_at, preset_on_at, countdown_at, kind_at, frozen_on_at, packet_at, packet_bytes, store_at, store_bytes, preset_at, preset_bytes, palettes_at, palettes_bytes, map_at, map_bytes, system_at, system_bytes, files_at, files_bytes, live_at, capture_bytes, frozen_at, tiles_at, tiles_bytes, border_map_at, border_map_bytes, border_palettes_at, border_palettes_bytes, sizes, sum}
use Rattle.layout.specs.Block.{byte, flag, is_set, is_held, value_of, load, save, parts}
use Rattle.layout.specs.Valid.{v1, v2, v3, v4, v5, v6, mask_allows, valid_parts, valid, Valid}
use Rattle.layout.specs.Sgb.{Sgb}
use Rattle.layout.specs.Good.{Good, GoodPort, GoodGame, GoodSnes}
use Rattle.layout.proofs.Cut.{get-part, length-flat}
use Rattle.layout.proofs.Fields.{set_of-flag, stage_of-number, value_of-bytes, held_number, held-sized, held-length, held_again, pending-good, pending_again, pending_timed, flag_small, held_small, stage-small, held-clear, are-bytes_of}
use Rattle.layout.proofs.Saved.{Clauses, clauses, two, long-part}

-- ---- from the block to the unit

module _ (b : List ℕ) (c : Clauses b) where
  port-good : GoodPort (load b).port
  port-good =
      unfold load v3 in
      record {
        lines = (two b c).lines;
        receiver =
            v3_says (load b).port.rx (load b).port.store
            (and_right (are_bytes (part packet_at packet_bytes b)) _ (and_right (leb (byte stage_at b) 2) _ c.three));
        store = long-part b c.long store_at store_bytes (lit≤ tt);
      }

  game-good : GoodGame (load b).game
  game-good =
      unfold load v1 v6 in
      let r = and_right (leb (byte mask_at b) 3) (leb (byte pads_at b) 3 && eqb (bit_and (byte index_at b) (byte pads_at b)) (byte index_at b)) c.one in
      record {
        mask = leb-true (byte mask_at b) 3 (and_left (leb (byte mask_at b) 3) _ c.one);
        pads = leb-true (byte pads_at b) 3 (and_left (leb (byte pads_at b) 3) _ r);
        index = eqb-true (bit_and (byte index_at b) (byte pads_at b)) (byte index_at b) (and_right (leb (byte pads_at b) 3) _ r);
        allowed =
            ap (mask_allows (byte mask_at b)) (held_number (byte frozen_on_at b) (part frozen_at capture_bytes b) (two b c).frozen)
            ∙ and_left (mask_allows (byte mask_at b) (byte frozen_on_at b)) _ c.six;
        preset = held-sized preset_bytes (byte preset_on_at b) (part preset_at preset_bytes b) (long-part b c.long preset_at preset_bytes (lit≤ tt));
        palettes = long-part b c.long palettes_at palettes_bytes (lit≤ tt);
        map = long-part b c.long map_at map_bytes (lit≤ tt);
        frozen = held-sized capture_bytes (byte frozen_on_at b) (part frozen_at capture_bytes b) (long-part b c.long frozen_at capture_bytes (lit≤ tt));
      }

  snes-good : GoodSnes (load b).snes
  snes-good =
      unfold load v4 in
      record {
        pending = pending-good (byte countdown_at b) (byte kind_at b) c.four;
        live = long-part b c.long live_at capture_bytes (lit≤ tt);
        system = long-part b c.long system_at system_bytes (lit≤ tt);
        files = long-part b c.long files_at files_bytes (lit≤ tt);
        tiles = long-part b c.long tiles_at tiles_bytes (lit≤ tt);
        border_map = long-part b c.long border_map_at border_map_bytes (lit≤ tt);
        border_palettes = long-part b c.long border_palettes_at border_palettes_bytes (lit≤ tt);
      }

pub valid-good : (b : List ℕ) → valid b ≡ true → Good (load b)
valid-good b v = let c = clauses b v in record { port = port-good b c; game = game-good b c; snes = snes-good b c }

-- ---- from the unit to the block

-- a packet that is coming in has at most 128 bits
small_at : (s : Stage) (r : Rx) (l : List ℕ) → V3At s r l → r.packet < 256 ^ 16
small_at Idle r l v = rw v.packet (lit< tt)
small_at Receiving r l v = lt_of_lt_of_le v.0.clear (pow_mono {i = r.bits} {j = 128} v.0.bound)
small_at Awaiting r l v = rw v.0.packet (lit< tt)

module _ (u : Sgb) (g : Good u) where
  -- each part has its size
  pub sized : map length (parts u) ≡ sizes
  sized =
      λ t.
      16 ∷ length-bytes packet_bytes u.port.rx.packet t ∷ g.port.store t ∷ held-length preset_bytes u.game.preset g.game.preset t
      ∷ g.game.palettes t ∷ g.game.map t ∷ g.snes.system t ∷ g.snes.files t ∷ g.snes.live t
      ∷ held-length capture_bytes u.game.frozen g.game.frozen t ∷ g.snes.tiles t ∷ g.snes.border_map t ∷ g.snes.border_palettes t ∷ []

  -- the k-th part of its block
  get : (k : ℕ) → k < 13 → part (sum (take k sizes)) (get_or sizes k 0) (save u) ≡ get_or (parts u) k []
  get k h = unfold save in get-part sizes (parts u) sized k h

  pub good-back : load (save u) ≡ u
  good-back = unfold load save in λ t. record {
    port =
        record {
          p15 = set_of-flag u.port.p15 t;
          both = set_of-flag u.port.both t;
          rx =
              record {
                stage = stage_of-number u.port.rx.stage t;
                expected = u.port.rx.expected;
                received = u.port.rx.received;
                bits = u.port.rx.bits;
                packet =
                    (ap value_of (get 1 (lit< tt)) ∙ value_of-bytes packet_bytes u.port.rx.packet (small_at u.port.rx.stage u.port.rx u.port.store g.port.receiver)) t;
              };
          store = get 2 (lit< tt) t;
        };
    game =
        record {
          mask = u.game.mask;
          index = u.game.index;
          pads = u.game.pads;
          preset = held_again preset_bytes u.game.preset (part preset_at preset_bytes (save u)) (get 3 (lit< tt)) t;
          palettes = get 4 (lit< tt) t;
          map = get 5 (lit< tt) t;
          frozen = held_again capture_bytes u.game.frozen (part frozen_at capture_bytes (save u)) (get 9 (lit< tt)) t;
        };
    snes =
        record {
          pending = pending_again u.snes.pending g.snes.pending t;
          live = get 8 (lit< tt) t;
          system = get 6 (lit< tt) t;
          files = get 7 (lit< tt) t;
          tiles = get 10 (lit< tt) t;
          border_map = get 11 (lit< tt) t;
          border_palettes = get 12 (lit< tt) t;
        };
  }

  pub length-save : length (save u) ≡ block_bytes
  length-save = unfold save in length-flat (parts u) ∙ ap sum sized

  one_kept : v1 (save u) ≡ true
  one_kept =
      unfold v1 save in
      and-true (leb u.game.mask 3) _ (le-leb u.game.mask 3 g.game.mask)
      (and-true (leb u.game.pads 3) _ (le-leb u.game.pads 3 g.game.pads)
      (eq-eqb (bit_and u.game.index u.game.pads) u.game.index g.game.index))

  two-kept : v2 (save u) ≡ true
  two-kept =
      unfold v2 save zeros in
      and-true (leb (flag u.port.p15) 1) _ (flag_small u.port.p15)
      (and-true (leb (flag u.port.both) 1) _ (flag_small u.port.both)
      (and-true (leb (is_held u.game.preset) 1) _ (held_small u.game.preset)
      (and-true (leb (is_held u.game.frozen) 1) _ (held_small u.game.frozen)
      (and-true (cond (is_set (flag u.port.both)) (is_set (flag u.port.p15)) true) _
      ((λ t. cond (set_of-flag u.port.both t) (set_of-flag u.port.p15 t) true) ∙ g.port.lines)
      refl))))

  three-kept : v3 (save u) ≡ true
  three-kept =
      unfold v3 load in
      and-true (leb (byte stage_at (save u)) 2) _ (unfold save in stage-small u.port.rx.stage)
      (and-true (are_bytes (part packet_at packet_bytes (save u))) _ (ap are_bytes (get 1 (lit< tt)) ∙ are-bytes_of packet_bytes u.port.rx.packet)
      (ap (λ w. receiverValid w.port.rx w.port.store) good-back ∙ v3-true u.port.rx u.port.store g.port.receiver))

  four-kept : v4 (save u) ≡ true
  four-kept = unfold v4 save in pending_timed u.snes.pending g.snes.pending

  five-kept : v5 (save u) ≡ true
  five-kept = unfold v5 save in held-clear preset_bytes u.game.preset (part preset_at preset_bytes (save u)) (get 3 (lit< tt))

  six-kept : v6 (save u) ≡ true
  six-kept =
      unfold v6 save in
      and-true (mask_allows u.game.mask (is_held u.game.frozen)) _ g.game.allowed
      (held-clear capture_bytes u.game.frozen (part frozen_at capture_bytes (save u)) (get 9 (lit< tt)))

  pub good-valid : valid (save u) ≡ true
  good-valid =
      unfold valid valid_parts in
      and-true (eqb (length (save u)) block_bytes) _ (eq-eqb (length (save u)) block_bytes length-save)
      (and-true (v1 (save u)) _ one_kept
      (and-true (v2 (save u)) _ two-kept
      (and-true (v3 (save u)) _ three-kept
      (and-true (v4 (save u)) _ four-kept (and-true (v5 (save u)) _ five-kept six-kept)))))

-- so a block that is told as the one of a good unit is valid
pub saved-valid : (u : Sgb) → Good u → (b : List ℕ) → b ≡ save u → Valid b
saved-valid u g b e = record { long = ap length e ∙ length-save u g; tested = ap valid e ∙ good-valid u g }
