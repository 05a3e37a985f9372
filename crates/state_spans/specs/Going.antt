-- A block that goes out: what it says as the fields and spans of a state, and what the call answers and leaves in each span that is lent.
-- RULES 11.6; the Rust's `write_state` and `capture_memory`.
use Rattle.std.specs.Prelude.{ℕ, ◌*◌, Bool, ◌&&◌, cond, List, leb, length, take, get_or}
use Rattle.std.proofs.Math.Option.{Option, none, some}
use Rattle.bits.specs.Over.{part, over}
use Rattle.pulses.specs.Answer.{Answer, refused, given}
use Rattle.layout.specs.Block.{byte, is_set, held}
use Rattle.parts.specs.Parts.{received_at, preset_on_at, frozen_on_at, packet_at, packet_bytes, store_at, store_bytes, preset_at, preset_bytes, palettes_at, palettes_bytes, map_at, map_bytes, system_at, system_bytes, files_at, files_bytes, live_at, capture_bytes, frozen_at, tiles_at, tiles_bytes, border_map_at, border_map_bytes, border_palettes_at, border_palettes_bytes}
use Rattle.view.specs.Refusal.{refusing}
use Rattle.state_cells.specs.Cells.{unpack_cells}
use Rattle.state_spans.specs.State.{State, field_bytes, map_cells, files_cells, capture_pixels, state_lent, present_in}

-- ---- the state that a block is

unfoldable pub state_of : List ℕ → State
state_of b =
    record {
      fields = part 0 field_bytes b;
      palettes = some (part palettes_at palettes_bytes b);
      attribute_map = some (unpack_cells map_bytes (part map_at map_bytes b));
      system_palettes = some (part system_at system_bytes b);
      attribute_files = some (unpack_cells files_bytes (part files_at files_bytes b));
      packet = some (part packet_at packet_bytes b);
      -- those that are in
      packets = some (part store_at (16 * byte received_at b) b);
      capture = some (unpack_cells capture_bytes (part live_at capture_bytes b));
      frozen_capture = cond (is_set (byte frozen_on_at b)) (some (unpack_cells capture_bytes (part frozen_at capture_bytes b))) none;
      preset = held (byte preset_on_at b) (part preset_at preset_bytes b);
      border_tiles = some (part tiles_at tiles_bytes b);
      border_map = some (part border_map_at border_map_bytes b);
      border_palettes = some (part border_palettes_at border_palettes_bytes b);
    }

-- ---- what is lent

pub record Lent : Type 0 where
  pub fields : List ℕ
  pub palettes : List ℕ
  pub attribute_map : List ℕ
  pub system_palettes : List ℕ
  pub attribute_files : List ℕ
  pub packet : List ℕ
  pub packets : List ℕ
  pub capture : List ℕ
  pub frozen_capture : List ℕ
  pub preset : List ℕ
  pub border_tiles : List ℕ
  pub border_map : List ℕ
  pub border_palettes : List ℕ

abbrev pub lent : List ℕ → List ℕ → List ℕ → List ℕ → List ℕ → List ℕ → List ℕ → List ℕ → List ℕ → List ℕ → List ℕ → List ℕ → List ℕ → Lent
lent fields palettes attribute_map system_palettes attribute_files packet packets capture frozen_capture preset border_tiles border_map border_palettes =
    record {
      fields = fields;
      palettes = palettes;
      attribute_map = attribute_map;
      system_palettes = system_palettes;
      attribute_files = attribute_files;
      packet = packet;
      packets = packets;
      capture = capture;
      frozen_capture = frozen_capture;
      preset = preset;
      border_tiles = border_tiles;
      border_map = border_map;
      border_palettes = border_palettes;
    }

-- room for the longest that each can be: refusal 6
abbrev pub room_for : ℕ → List ℕ → Bool
room_for n l = leb n (length l)

unfoldable pub front_room : List ℕ → List ℕ → List ℕ → List ℕ → Bool
front_room fields packet packets preset =
    room_for field_bytes fields && (room_for packet_bytes packet && (room_for store_bytes packets && room_for preset_bytes preset))

unfoldable pub tables_room : List ℕ → List ℕ → List ℕ → List ℕ → Bool
tables_room palettes attribute_map system_palettes attribute_files =
    room_for palettes_bytes palettes
    && (room_for map_cells attribute_map && (room_for system_bytes system_palettes && room_for files_cells attribute_files))

unfoldable pub captures_room : List ℕ → List ℕ → Bool
captures_room capture frozen_capture = room_for capture_pixels capture && room_for capture_pixels frozen_capture

unfoldable pub border_room : List ℕ → List ℕ → List ℕ → Bool
border_room tiles map palettes = room_for tiles_bytes tiles && (room_for border_map_bytes map && room_for border_palettes_bytes palettes)

unfoldable pub roomy : Lent → Bool
roomy l =
    front_room l.fields l.packet l.packets l.preset
    && (tables_room l.palettes l.attribute_map l.system_palettes l.attribute_files
    && (captures_room l.capture l.frozen_capture && border_room l.border_tiles l.border_map l.border_palettes))

-- what a lent span holds afterwards: the span at its front, or what was there if the span is missing
unfoldable pub laid : Option (List ℕ) → List ℕ → List ℕ
laid none l = l
laid (some ys) l = over 0 (length ys) ys l

unfoldable pub laid_all : State → Lent → Lent
laid_all s l =
    lent (laid (some s.fields) l.fields) (laid s.palettes l.palettes) (laid s.attribute_map l.attribute_map) (laid s.system_palettes l.system_palettes)
    (laid s.attribute_files l.attribute_files) (laid s.packet l.packet) (laid s.packets l.packets) (laid s.capture l.capture)
    (laid s.frozen_capture l.frozen_capture) (laid s.preset l.preset) (laid s.border_tiles l.border_tiles) (laid s.border_map l.border_map)
    (laid s.border_palettes l.border_palettes)

-- what a caller holds then, as a state: the front of each span that is there, as long as that span is
abbrev pub read_back : ℕ → Lent → State
read_back present l =
    state_lent (take field_bytes l.fields) present (take palettes_bytes l.palettes) (take map_cells l.attribute_map) (take system_bytes l.system_palettes)
    (take files_cells l.attribute_files) (take packet_bytes l.packet) (take (16 * get_or l.fields received_at 0) l.packets) (take capture_pixels l.capture)
    (take capture_pixels l.frozen_capture) (take preset_bytes l.preset) (take tiles_bytes l.border_tiles) (take border_map_bytes l.border_map)
    (take border_palettes_bytes l.border_palettes)

-- ---- the call: refusals 1, 21 to 26, 6; else which spans are there

unfoldable pub to_answer : List ℕ → Lent → Answer ℕ
to_answer b l = refusing b (cond (roomy l) (given (present_in (state_of b))) (refused 6))

unfoldable pub leaves_lent : Answer ℕ → Lent → Lent → Lent
leaves_lent (refused n) after before = before
leaves_lent (given p) after before = after

unfoldable pub to_lent : List ℕ → Lent → Lent
to_lent b l = leaves_lent (to_answer b l) (laid_all (state_of b) l) l
