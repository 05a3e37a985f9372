-- What a state that is taken comes back as: all of it, but for what the block has no place for. RULES 11.7. Four things are forgotten: the bits
-- of a shade above its low two; the kind beside a countdown of 0; a preset without its flag; a border of which a span is missing, which is empty.
use Rattle.std.specs.Prelude.{ℕ, cond, List, [], ◌∷◌}
use Rattle.std.proofs.Math.Option.{Option, none, some}
use Rattle.layout.specs.Block.{is_set}
use Rattle.parts.specs.Parts.{mask_at, index_at, pads_at, p15_at, both_at, stage_at, expected_at, received_at, bits_at, preset_on_at, countdown_at, kind_at, tiles_bytes, border_map_bytes, border_palettes_bytes}
use Rattle.state_cells.specs.Cells.{low_pairs}
use Rattle.state_spans.specs.State.{State, field}
use Rattle.state_spans.specs.Coming.{kind_taken, border_from, border_of}

unfoldable pub shades_kept : Option (List ℕ) → Option (List ℕ)
shades_kept none = none
shades_kept (some l) = some (low_pairs l)

abbrev pub fields_kept : State → List ℕ
fields_kept s =
    field mask_at s ∷ field index_at s ∷ field pads_at s ∷ field p15_at s ∷ field both_at s ∷ field stage_at s ∷ field expected_at s
    ∷ field received_at s ∷ field bits_at s ∷ field preset_on_at s ∷ field countdown_at s
    ∷ kind_taken (field countdown_at s) (field kind_at s) ∷ []

unfoldable pub preset_kept : State → Option (List ℕ)
preset_kept s = cond (is_set (field preset_on_at s)) s.preset none

unfoldable pub kept : State → State
kept s =
    record {
      fields = fields_kept s;
      palettes = s.palettes;
      attribute_map = s.attribute_map;
      system_palettes = s.system_palettes;
      attribute_files = s.attribute_files;
      packet = s.packet;
      packets = s.packets;
      capture = shades_kept s.capture;
      frozen_capture = shades_kept s.frozen_capture;
      preset = preset_kept s;
      border_tiles = some (border_from (border_of s) tiles_bytes s.border_tiles);
      border_map = some (border_from (border_of s) border_map_bytes s.border_map);
      border_palettes = some (border_from (border_of s) border_palettes_bytes s.border_palettes);
    }
