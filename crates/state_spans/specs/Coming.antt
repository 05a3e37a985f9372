-- A state that comes in: whether its spans are as long as they must be, which block it gives, and what the call answers and leaves.
-- RULES 11.3 to 11.5; the Rust's `from_state`, which takes more than the block may hold (docs/DIFFERENCES.md).
use Rattle.std.specs.Prelude.{ℕ, ◌-◌, ◌*◌, Bool, true, false, ◌&&◌, cond, List, [], ◌∷◌, ◌++◌, eqb, leb, length, get_or, replicate}
use Rattle.std.proofs.Math.Option.{Option, none, some}
use Rattle.broken.specs.Broken.{broken, broken_number}
use Rattle.layout.specs.Block.{is_set, is_held, flat}
use Rattle.parts.specs.Parts.{block_bytes, mask_at, index_at, pads_at, p15_at, both_at, stage_at, expected_at, received_at, bits_at, preset_on_at, countdown_at, kind_at, packet_bytes, store_bytes, preset_bytes, palettes_bytes, map_bytes, system_bytes, files_bytes, capture_bytes, tiles_bytes, border_map_bytes, border_palettes_bytes}
use Rattle.state_cells.specs.Cells.{pack_cells, palette_numbers}
use Rattle.state_spans.specs.State.{State, field_bytes, map_cells, files_cells, capture_pixels, is_there, bytes_in}

-- ---- the lengths: refusal 8

-- a span that must be there, and one that may be missing
unfoldable pub has : ℕ → Option (List ℕ) → Bool
has n none = false
has n (some l) = eqb (length l) n

unfoldable pub may_have : ℕ → Option (List ℕ) → Bool
may_have n none = true
may_have n (some l) = eqb (length l) n

-- the packets that are in: sixteen bytes each, and no command has over seven
unfoldable pub packets_fit : ℕ → Option (List ℕ) → Bool
packets_fit received packets = leb received 7 && has (16 * received) packets

-- the preset is looked at only with its flag
unfoldable pub preset_fits : ℕ → Option (List ℕ) → Bool
preset_fits in_force preset = cond (is_set in_force) (has preset_bytes preset) true

unfoldable pub front_fits : List ℕ → Option (List ℕ) → Option (List ℕ) → Option (List ℕ) → Bool
front_fits fields packet packets preset =
    eqb (length fields) field_bytes
    && (has packet_bytes packet && (packets_fit (get_or fields received_at 0) packets && preset_fits (get_or fields preset_on_at 0) preset))

unfoldable pub tables_fit : Option (List ℕ) → Option (List ℕ) → Option (List ℕ) → Option (List ℕ) → Bool
tables_fit palettes attribute_map system_palettes attribute_files =
    has palettes_bytes palettes
    && (has map_cells attribute_map && (has system_bytes system_palettes && has files_cells attribute_files))

-- the frozen capture may be missing
unfoldable pub captures_fit : Option (List ℕ) → Option (List ℕ) → Bool
captures_fit capture frozen_capture = has capture_pixels capture && may_have capture_pixels frozen_capture

-- a border of which a span is missing is empty, and the other two are not looked at
unfoldable pub whole_border : Option (List ℕ) → Option (List ℕ) → Option (List ℕ) → Bool
whole_border tiles map palettes = is_there tiles && (is_there map && is_there palettes)

unfoldable pub border_fits : Option (List ℕ) → Option (List ℕ) → Option (List ℕ) → Bool
border_fits tiles map palettes =
    cond (whole_border tiles map palettes) (has tiles_bytes tiles && (has border_map_bytes map && has border_palettes_bytes palettes)) true

unfoldable pub fits : State → Bool
fits s =
    front_fits s.fields s.packet s.packets s.preset
    && (tables_fit s.palettes s.attribute_map s.system_palettes s.attribute_files
    && (captures_fit s.capture s.frozen_capture && border_fits s.border_tiles s.border_map s.border_palettes))

-- ---- the cells: refusal 9

unfoldable pub cells_fit : State → Bool
cells_fit s = palette_numbers (bytes_in s.attribute_map) && palette_numbers (bytes_in s.attribute_files)

-- ---- the block that it gives, part by part

-- with a countdown of 0 nothing is pending, whichever of the five kinds was kept
unfoldable pub kind_taken : ℕ → ℕ → ℕ
kind_taken countdown kind = cond (eqb countdown 0 && leb kind 4) 0 kind

-- bytes 0 to 15; whether there is a frozen capture is byte 12
abbrev pub header_from : List ℕ → ℕ → List ℕ
header_from f frozenOn =
    get_or f mask_at 0 ∷ get_or f index_at 0 ∷ get_or f pads_at 0 ∷ get_or f p15_at 0 ∷ get_or f both_at 0 ∷ get_or f stage_at 0 ∷ get_or f expected_at 0
    ∷ get_or f received_at 0 ∷ get_or f bits_at 0 ∷ get_or f preset_on_at 0 ∷ get_or f countdown_at 0
    ∷ kind_taken (get_or f countdown_at 0) (get_or f kind_at 0) ∷ frozenOn ∷ 0 ∷ 0 ∷ 0 ∷ []

-- the packets, and zeros up to seven of them
unfoldable pub store_from : Option (List ℕ) → List ℕ
store_from packets = bytes_in packets ++ replicate (store_bytes - length (bytes_in packets)) 0

unfoldable pub preset_from : ℕ → Option (List ℕ) → List ℕ
preset_from in_force preset = cond (is_set in_force) (bytes_in preset) (replicate preset_bytes 0)

-- what stands before the palettes: all that V1 to V5 look at
unfoldable pub front_from : List ℕ → ℕ → Option (List ℕ) → Option (List ℕ) → Option (List ℕ) → List ℕ
front_from fields frozenOn packet packets preset =
    flat (header_from fields frozenOn ∷ bytes_in packet ∷ store_from packets ∷ preset_from (get_or fields preset_on_at 0) preset ∷ [])

unfoldable pub frozen_from : Option (List ℕ) → List ℕ
frozen_from none = replicate capture_bytes 0
frozen_from (some l) = pack_cells capture_bytes l

-- a span of the border, where all three are there
unfoldable pub border_from : Bool → ℕ → Option (List ℕ) → List ℕ
border_from whole n span = cond whole (bytes_in span) (replicate n 0)

abbrev pub border_of : State → Bool
border_of s = whole_border s.border_tiles s.border_map s.border_palettes

abbrev pub parts_from : State → List (List ℕ)
parts_from s =
    front_from s.fields (is_held s.frozen_capture) s.packet s.packets s.preset
    ∷ bytes_in s.palettes
    ∷ pack_cells map_bytes (bytes_in s.attribute_map)
    ∷ bytes_in s.system_palettes
    ∷ pack_cells files_bytes (bytes_in s.attribute_files)
    ∷ pack_cells capture_bytes (bytes_in s.capture)
    ∷ frozen_from s.frozen_capture
    ∷ border_from (border_of s) tiles_bytes s.border_tiles
    ∷ border_from (border_of s) border_map_bytes s.border_map
    ∷ border_from (border_of s) border_palettes_bytes s.border_palettes
    ∷ []

unfoldable pub block_from : State → List ℕ
block_from s = flat (parts_from s)

-- ---- the call: refusals 1, 8, 9, 21 to 26

-- 0, or the refusal as one number; V1 to V6 are asked of the block that would come in
unfoldable pub from_answer : List ℕ → State → ℕ
from_answer b s =
    cond (eqb (length b) block_bytes) (cond (fits s) (cond (cells_fit s) (broken_number (broken (block_from s))) 9) 8) 1

unfoldable pub from_block : List ℕ → State → List ℕ
from_block b s = cond (eqb (from_answer b s) 0) (block_from s) b
