-- What a span's cells come to at the front of what is lent, and which spans a block has, as a number.
use mathlib.Core.Path.{◌≡◌, refl, sym, ap, ◌∙◌}
use mathlib.Core.Bool.{Bool, true, false, cond}
use mathlib.Core.List.{List, [], ◌∷◌}
use mathlib.Core.Option.{none, some}
use Prim.Native.Nat.{ℕ, ◌+◌, ◌*◌, ◌≤◌}
use borrow.Author.Tests.{leb-true}
use lib.ListN.{length}
use Rattle.bits.specs.Over.{over}
use Rattle.bits.proofs.Tests.{and_left, and_right}
use Rattle.parts.specs.Parts.{packet_bytes, store_bytes, preset_bytes, palettes_bytes, system_bytes, tiles_bytes, border_map_bytes, border_palettes_bytes}
use Rattle.state_cells.specs.Cells.{unpack_cells}
use Rattle.state_cells.proofs.Celling.{length-unpack_cells}
use Rattle.state_spans.specs.State.{field_bytes, map_cells, files_cells, capture_pixels, is_there, presence}
use Rattle.state_spans.specs.Going.{Lent, room_for, front_room, tables_room, captures_room, border_room, roomy, laid}

-- a part of n packed bytes, a byte each
pub cells-laid : (n : ℕ) (p l : List ℕ) → length p ≡ n → over 0 (4 * length p) (unpack_cells (length p) p) l ≡ laid (some (unpack_cells n p)) l
unfolding laid
cells-laid n p l e = λ t. over 0 ((ap (λ (k : ℕ). 4 * k) e ∙ sym (length-unpack_cells n p)) t) (unpack_cells (e t) p) l

-- all spans but the frozen capture, number 7, and the preset, number 8, are always there
pub present-sum : (f p : Bool) (x y : List ℕ)
    → 3711 + cond f 128 0 + cond p 256 0
    ≡ presence
    (true ∷ true ∷ true ∷ true ∷ true ∷ true ∷ true ∷ is_there (cond f (some x) none) ∷ is_there (cond p (some y) none) ∷ true ∷ true ∷ true ∷ [])
unfolding presence is_there
present-sum true true x y = refl
present-sum true false x y = refl
present-sum false true x y = refl
present-sum false false x y = refl

-- ---- room for each

pub record Rooms (l : Lent) : Type 0 where
  pub fields : field_bytes ≤ length l.fields
  pub palettes : palettes_bytes ≤ length l.palettes
  pub attribute_map : map_cells ≤ length l.attribute_map
  pub system_palettes : system_bytes ≤ length l.system_palettes
  pub attribute_files : files_cells ≤ length l.attribute_files
  pub packet : packet_bytes ≤ length l.packet
  pub packets : store_bytes ≤ length l.packets
  pub capture : capture_pixels ≤ length l.capture
  pub frozen_capture : capture_pixels ≤ length l.frozen_capture
  pub preset : preset_bytes ≤ length l.preset
  pub border_tiles : tiles_bytes ≤ length l.border_tiles
  pub border_map : border_map_bytes ≤ length l.border_map
  pub border_palettes : border_palettes_bytes ≤ length l.border_palettes

pub rooms : (l : Lent) → roomy l ≡ true → Rooms l
unfolding roomy front_room tables_room captures_room border_room
rooms l h =
    let f = and_left (front_room l.fields l.packet l.packets l.preset) _ h in
    let h2 = and_right (front_room l.fields l.packet l.packets l.preset) _ h in
    let t = and_left (tables_room l.palettes l.attribute_map l.system_palettes l.attribute_files) _ h2 in
    let h3 = and_right (tables_room l.palettes l.attribute_map l.system_palettes l.attribute_files) _ h2 in
    let c = and_left (captures_room l.capture l.frozen_capture) _ h3 in
    let b = and_right (captures_room l.capture l.frozen_capture) _ h3 in
    let f2 = and_right (room_for field_bytes l.fields) _ f in
    let f3 = and_right (room_for packet_bytes l.packet) _ f2 in
    let t2 = and_right (room_for palettes_bytes l.palettes) _ t in
    let t3 = and_right (room_for map_cells l.attribute_map) _ t2 in
    let b2 = and_right (room_for tiles_bytes l.border_tiles) _ b in
    record {
      fields = leb-true field_bytes (length l.fields) (and_left (room_for field_bytes l.fields) _ f);
      palettes = leb-true palettes_bytes (length l.palettes) (and_left (room_for palettes_bytes l.palettes) _ t);
      attribute_map = leb-true map_cells (length l.attribute_map) (and_left (room_for map_cells l.attribute_map) _ t2);
      system_palettes = leb-true system_bytes (length l.system_palettes) (and_left (room_for system_bytes l.system_palettes) _ t3);
      attribute_files = leb-true files_cells (length l.attribute_files) (and_right (room_for system_bytes l.system_palettes) _ t3);
      packet = leb-true packet_bytes (length l.packet) (and_left (room_for packet_bytes l.packet) _ f2);
      packets = leb-true store_bytes (length l.packets) (and_left (room_for store_bytes l.packets) _ f3);
      capture = leb-true capture_pixels (length l.capture) (and_left (room_for capture_pixels l.capture) _ c);
      frozen_capture = leb-true capture_pixels (length l.frozen_capture) (and_right (room_for capture_pixels l.capture) _ c);
      preset = leb-true preset_bytes (length l.preset) (and_right (room_for store_bytes l.packets) _ f3);
      border_tiles = leb-true tiles_bytes (length l.border_tiles) (and_left (room_for tiles_bytes l.border_tiles) _ b);
      border_map = leb-true border_map_bytes (length l.border_map) (and_left (room_for border_map_bytes l.border_map) _ b2);
      border_palettes = leb-true border_palettes_bytes (length l.border_palettes) (and_right (room_for border_map_bytes l.border_map) _ b2);
    }
