-- Which state or room the structs of the code are: a span that is lent is the bytes that it points to, and a struct of them is field by field.
use Rattle.std.specs.Prelude.{◌≡◌, ℕ, List, Option, Some, None}
use Rattle.std.specs.Borrow.{Bor}
use Rattle.std.proofs.Math.Option as M
use Rattle.state_spans.specs.declared.Spans.{Spans}
use Rattle.state_spans.specs.declared.SpansMut.{SpansMut}
use Rattle.state_spans.specs.State.{State}
use Rattle.state_spans.specs.Going.{Lent, lent}

abbrev pub span_told : Option (Bor (List ℕ)) → M.Option (List ℕ)
span_told None = M.none
span_told (Some s) = M.some s.now

abbrev pub state_told : Spans → State
state_told s =
    record {
      fields = s.fields.now;
      palettes = span_told s.palettes;
      attribute_map = span_told s.attribute_map;
      system_palettes = span_told s.system_palettes;
      attribute_files = span_told s.attribute_files;
      packet = span_told s.packet;
      packets = span_told s.packets;
      capture = span_told s.capture;
      frozen_capture = span_told s.frozen_capture;
      preset = span_told s.preset;
      border_tiles = span_told s.border_tiles;
      border_map = span_told s.border_map;
      border_palettes = span_told s.border_palettes;
    }

-- the bytes of the room as they are
abbrev pub lent_told : SpansMut → Lent
lent_told s =
    lent s.fields.now s.palettes.now s.attribute_map.now s.system_palettes.now s.attribute_files.now s.packet.now s.packets.now s.capture.now
    s.frozen_capture.now s.preset.now s.border_tiles.now s.border_map.now s.border_palettes.now

-- each field lends what it lent before
abbrev pub SameRoom : SpansMut → SpansMut → Type 0
SameRoom s r =
    (s.fields.ghost_name ≡ r.fields.ghost_name) × ((s.palettes.ghost_name ≡ r.palettes.ghost_name) × ((s.attribute_map.ghost_name ≡ r.attribute_map.ghost_name)
    × ((s.system_palettes.ghost_name ≡ r.system_palettes.ghost_name) × ((s.attribute_files.ghost_name ≡ r.attribute_files.ghost_name)
    × ((s.packet.ghost_name ≡ r.packet.ghost_name) × ((s.packets.ghost_name ≡ r.packets.ghost_name) × ((s.capture.ghost_name ≡ r.capture.ghost_name)
    × ((s.frozen_capture.ghost_name ≡ r.frozen_capture.ghost_name) × ((s.preset.ghost_name ≡ r.preset.ghost_name)
    × ((s.border_tiles.ghost_name ≡ r.border_tiles.ghost_name) × ((s.border_map.ghost_name ≡ r.border_map.ghost_name)
    × (s.border_palettes.ghost_name ≡ r.border_palettes.ghost_name))))))))))))
