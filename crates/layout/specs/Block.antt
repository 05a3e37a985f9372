-- The unit as its 30,020 bytes, and back. RULES 1.4 and 1.5.
use Rattle.std.specs.Prelude.{ℕ, ◌+◌, ◌*◌, Bool, cond, List, [], ◌∷◌, ◌++◌, eqb, get_or, replicate}
use Rattle.std.proofs.Math.Option.{Option, none, some}
use Rattle.bits.specs.Over.{part}
use Rattle.receiver.specs.Receive.{stage_number}
use Rattle.receiver.specs.Store.{bytes_of}
use Rattle.receiver.specs.declared.Stage.{Stage}
use Rattle.receiver.specs.declared.Stage.TheVariants.{Idle, Receiving, Awaiting}
use Rattle.transfer.specs.Pending.{countdown_of, kind_of, pending_of}
use Rattle.parts.specs.Parts.{mask_at, index_at, pads_at, p15_at, both_at, stage_at, expected_at, received_at, bits_at, preset_on_at, countdown_at, kind_at, frozen_on_at, packet_at, packet_bytes, store_at, store_bytes, preset_at, preset_bytes, palettes_at, palettes_bytes, map_at, map_bytes, system_at, system_bytes, files_at, files_bytes, live_at, capture_bytes, frozen_at, tiles_at, tiles_bytes, border_map_at, border_map_bytes, border_palettes_at, border_palettes_bytes}
use Rattle.layout.specs.Sgb.{Sgb}

-- ---- from bytes

abbrev pub byte : ℕ → List ℕ → ℕ
byte at b = get_or b at 0

-- a flag is 0 or 1
abbrev pub is_set : ℕ → Bool
is_set n = eqb n 1

-- the receiver's stage by byte 5
unfoldable pub stage_of : ℕ → Stage
stage_of n = cond (eqb n 0) Idle (cond (eqb n 1) Receiving Awaiting)

-- the number whose bytes these are, lowest first
unfoldable pub value_of : List ℕ → ℕ
value_of [] = 0
value_of (x ∷ xs) = x + 256 * value_of xs

-- what is there only if its flag is set
unfoldable pub held : ℕ → List ℕ → Option (List ℕ)
held on l = cond (is_set on) (some l) none

unfoldable pub load : List ℕ → Sgb
load b = record {
  port =
      record {
        p15 = is_set (byte p15_at b);
        both = is_set (byte both_at b);
        rx =
            record {
              stage = stage_of (byte stage_at b);
              expected = byte expected_at b;
              received = byte received_at b;
              bits = byte bits_at b;
              packet = value_of (part packet_at packet_bytes b);
            };
        store = part store_at store_bytes b;
      };
  game =
      record {
        mask = byte mask_at b;
        index = byte index_at b;
        pads = byte pads_at b;
        preset = held (byte preset_on_at b) (part preset_at preset_bytes b);
        palettes = part palettes_at palettes_bytes b;
        map = part map_at map_bytes b;
        frozen = held (byte frozen_on_at b) (part frozen_at capture_bytes b);
      };
  snes =
      record {
        pending = pending_of (byte countdown_at b) (byte kind_at b);
        live = part live_at capture_bytes b;
        system = part system_at system_bytes b;
        files = part files_at files_bytes b;
        tiles = part tiles_at tiles_bytes b;
        border_map = part border_map_at border_map_bytes b;
        border_palettes = part border_palettes_at border_palettes_bytes b;
      };
}

-- ---- to bytes

abbrev pub flag : Bool → ℕ
flag on = cond on 1 0

unfoldable pub is_held : Option (List ℕ) → ℕ
is_held none = 0
is_held (some l) = 1

-- n bytes: what is there, or zeros
unfoldable pub held_bytes : ℕ → Option (List ℕ) → List ℕ
held_bytes n none = replicate n 0
held_bytes n (some l) = l

-- bytes 0 to 15
abbrev pub header : Sgb → List ℕ
header u =
    u.game.mask ∷ u.game.index ∷ u.game.pads ∷ flag u.port.p15 ∷ flag u.port.both
    ∷ stage_number u.port.rx.stage ∷ u.port.rx.expected ∷ u.port.rx.received ∷ u.port.rx.bits
    ∷ is_held u.game.preset ∷ countdown_of u.snes.pending ∷ kind_of u.snes.pending ∷ is_held u.game.frozen
    ∷ 0 ∷ 0 ∷ 0 ∷ []

abbrev pub parts : Sgb → List (List ℕ)
parts u =
    header u
    ∷ bytes_of packet_bytes u.port.rx.packet
    ∷ u.port.store
    ∷ held_bytes preset_bytes u.game.preset
    ∷ u.game.palettes
    ∷ u.game.map
    ∷ u.snes.system
    ∷ u.snes.files
    ∷ u.snes.live
    ∷ held_bytes capture_bytes u.game.frozen
    ∷ u.snes.tiles
    ∷ u.snes.border_map
    ∷ u.snes.border_palettes
    ∷ []

-- one part after the other
abbrev pub flat : List (List ℕ) → List ℕ
flat [] = []
flat (p ∷ ps) = p ++ flat ps

unfoldable pub save : Sgb → List ℕ
save u = flat (parts u)
