-- A state of the emulator: its fields as numbers and its spans as bytes, under the names of the Rust's `state.rs` without their `sgb_` and in
-- its order. RULES 11.1 and 11.2. Which block a state gives is `Coming` next door, and what a block says as a state `Going`.
use Rattle.std.specs.Prelude.{ℕ, ◌+◌, ◌*◌, Bool, true, false, cond, List, [], ◌∷◌, get_or}
use Rattle.std.proofs.Math.Option.{Option, none, some}
use Rattle.bits.specs.Bit.{bit_of}
use Rattle.parts.specs.Parts.{map_bytes, files_bytes, capture_bytes}

pub record State : Type 0 where
  -- mask, joypad index, joypad mask, P15 high, lines high, receiver, packets expected, packets received, bit index, preset in force,
  -- transfer countdown, transfer kind: the order is that of the block's first bytes, so `Parts` has their places
  pub fields : List ℕ
  -- a span is missing, or there, if only with no bytes
  pub palettes : Option (List ℕ)
  pub attribute_map : Option (List ℕ)
  pub system_palettes : Option (List ℕ)
  pub attribute_files : Option (List ℕ)
  pub packet : Option (List ℕ)
  pub packets : Option (List ℕ)
  pub capture : Option (List ℕ)
  pub frozen_capture : Option (List ℕ)
  pub preset : Option (List ℕ)
  pub border_tiles : Option (List ℕ)
  pub border_map : Option (List ℕ)
  pub border_palettes : Option (List ℕ)

abbrev pub field_bytes : ℕ
field_bytes = 12

-- a field by its place
abbrev pub field : ℕ → State → ℕ
field at s = get_or s.fields at 0

-- a byte a cell, and a byte a pixel, where the block has four to a byte
abbrev pub map_cells : ℕ
map_cells = 4 * map_bytes

abbrev pub files_cells : ℕ
files_cells = 4 * files_bytes

abbrev pub capture_pixels : ℕ
capture_pixels = 4 * capture_bytes

-- ---- spans

unfoldable pub is_there : Option (List ℕ) → Bool
is_there none = false
is_there (some l) = true

-- the bytes of a span that is there
unfoldable pub bytes_in : Option (List ℕ) → List ℕ
bytes_in none = []
bytes_in (some l) = l

-- ---- as it is lent: all spans, and which of them are there as a number of twelve bits, the first span in the least significant

abbrev pub span_if : ℕ → ℕ → List ℕ → Option (List ℕ)
span_if k present l = cond (bit_of k present) (some l) none

abbrev pub state_lent : List ℕ → ℕ → List ℕ → List ℕ → List ℕ → List ℕ → List ℕ → List ℕ → List ℕ → List ℕ → List ℕ → List ℕ → List ℕ → List ℕ → State
state_lent fields present palettes attribute_map system_palettes attribute_files packet packets capture frozen_capture preset border_tiles border_map border_palettes =
    record {
      fields = fields;
      palettes = span_if 0 present palettes;
      attribute_map = span_if 1 present attribute_map;
      system_palettes = span_if 2 present system_palettes;
      attribute_files = span_if 3 present attribute_files;
      packet = span_if 4 present packet;
      packets = span_if 5 present packets;
      capture = span_if 6 present capture;
      frozen_capture = span_if 7 present frozen_capture;
      preset = span_if 8 present preset;
      border_tiles = span_if 9 present border_tiles;
      border_map = span_if 10 present border_map;
      border_palettes = span_if 11 present border_palettes;
    }

-- that number, from which of the spans are there
unfoldable pub presence : List Bool → ℕ
presence [] = 0
presence (t ∷ ts) = cond t 1 0 + 2 * presence ts

abbrev pub present_in : State → ℕ
present_in s =
    presence
    (is_there s.palettes ∷ is_there s.attribute_map ∷ is_there s.system_palettes ∷ is_there s.attribute_files ∷ is_there s.packet
    ∷ is_there s.packets ∷ is_there s.capture ∷ is_there s.frozen_capture ∷ is_there s.preset ∷ is_there s.border_tiles
    ∷ is_there s.border_map ∷ is_there s.border_palettes ∷ [])
