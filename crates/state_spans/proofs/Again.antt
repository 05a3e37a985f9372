-- A state that is taken comes back as what the block has a place for (`kept`): each part of its block goes out as the span that it came in as. What
-- is forgotten is said thing by thing, and where there is nothing to forget the state comes back whole.
use mathlib.Core.Path.{◌≡◌, refl, sym, ap, ◌∙◌}
use mathlib.Core.Bool.{Bool, true, false, ◌&&◌, cond, false≢true}
use mathlib.Core.List.{List, [], ◌∷◌, ◌++◌}
use mathlib.Core.Option.{Option, none, some}
use Prim.Native.Nat.{ℕ, ◌-◌, ◌*◌, ◌≤◌}
use native.Mathlib.Omega.{arith}
use lib.Dec.{lit<, eqb, leb}
use lib.ListN.{length, take, drop, get_or, replicate, drop_of_length-le}
use lib.Seq.{take_at, take-take}
use Rattle.bits.specs.Over.{part}
use Rattle.bits.proofs.Tests.{and_left, and_right}
use Rattle.broken.specs.Broken.{broken, broken_number}
use Rattle.layout.specs.Block.{byte, is_set, is_held, held}
use Rattle.layout.proofs.Cut.{heads, heads-eq}
use Rattle.parts.specs.Parts.{block_bytes, mask_at, index_at, pads_at, p15_at, both_at, stage_at, expected_at, received_at, bits_at, preset_on_at, countdown_at, kind_at, frozen_on_at, packet_at, packet_bytes, store_at, store_bytes, preset_at, preset_bytes, palettes_at, palettes_bytes, map_at, map_bytes, system_at, system_bytes, files_at, files_bytes, live_at, capture_bytes, frozen_at, tiles_bytes, border_map_bytes, border_palettes_bytes}
use Rattle.state_cells.specs.Cells.{unpack_cells, palette_numbers, low_pairs}
use Rattle.state_cells.proofs.Celling.{unpack-pack, low_numbers}
use Rattle.state_spans.specs.State.{State, field_bytes, field, capture_pixels, is_there, bytes_in}
use Rattle.state_spans.specs.Coming.{fits, cells_fit, kind_taken, store_from, preset_from, front_from, frozen_from, border_from, border_of, whole_border, block_from, from_answer}
use Rattle.state_spans.specs.Going.{state_of}
use Rattle.state_spans.specs.Forgotten.{shades_kept, fields_kept, preset_kept, kept}
use Rattle.state_spans.proofs.Lending.{lent_if}
use Rattle.state_spans.proofs.Out.{taken-fits}
use Rattle.state_spans.proofs.Blocks.{thirteen-part, front_of, tables_of, captures-of, lent_again}

-- ---- a span that is there

some_again : (o : Option (List ℕ)) → is_there o ≡ true → some (bytes_in o) ≡ o
some_again o e = ap (λ (t : Bool). lent_if t (bytes_in o)) (sym e) ∙ lent_again o

shades_again : (o : Option (List ℕ)) → is_there o ≡ true → some (low_pairs (bytes_in o)) ≡ shades_kept o
unfolding is_there bytes_in shades_kept
shades_again none e = absurd (false≢true e)
shades_again (some l) e = refl

frozen-kept : (o : Option (List ℕ)) (p : List ℕ) → p ≡ frozen_from o → (is_there o ≡ true → length (bytes_in o) ≡ capture_pixels)
    → cond (is_set (is_held o)) (some (unpack_cells capture_bytes p)) none ≡ shades_kept o
unfolding is_there bytes_in frozen_from is_held shades_kept
frozen-kept none p e l = refl
frozen-kept (some x) p e l = ap (λ (q : List ℕ). some (unpack_cells capture_bytes q)) e ∙ ap some (unpack-pack capture_bytes x (l refl))

preset_again : (t : Bool) (o : Option (List ℕ)) (p : List ℕ) → p ≡ cond t (bytes_in o) (replicate preset_bytes 0) → (t ≡ true → some (bytes_in o) ≡ o)
    → cond t (some p) none ≡ cond t o none
preset_again true o p e l = ap some e ∙ l refl
preset_again false o p e l = refl

-- ---- the state that comes back

module _ (s : State) (h : fits s ≡ true) (n : cells_fit s ≡ true) where
  abbrev block : List ℕ
  block = block_from s

  map-numbers : palette_numbers (bytes_in s.attribute_map) ≡ true
  map-numbers = unfold cells_fit in and_left (palette_numbers (bytes_in s.attribute_map)) _ n

  files-numbers : palette_numbers (bytes_in s.attribute_files) ≡ true
  files-numbers = unfold cells_fit in and_right (palette_numbers (bytes_in s.attribute_map)) _ n

  fields_back : part 0 field_bytes block ≡ fields_kept s
  fields_back = unfold block_from front_from in refl

  palettes-back : some (part palettes_at palettes_bytes block) ≡ s.palettes
  palettes-back = ap some (thirteen-part s h 4 (lit< tt)) ∙ some_again s.palettes (tables_of s h).palettes_there

  map_back : some (unpack_cells map_bytes (part map_at map_bytes block)) ≡ s.attribute_map
  map_back =
      ap (λ (p : List ℕ). some (unpack_cells map_bytes p)) (thirteen-part s h 5 (lit< tt))
      ∙ ap some (unpack-pack map_bytes (bytes_in s.attribute_map) (tables_of s h).attribute_map ∙ low_numbers (bytes_in s.attribute_map) map-numbers)
      ∙ some_again s.attribute_map (tables_of s h).attribute_map_there

  system-back : some (part system_at system_bytes block) ≡ s.system_palettes
  system-back = ap some (thirteen-part s h 6 (lit< tt)) ∙ some_again s.system_palettes (tables_of s h).system_palettes_there

  files-back : some (unpack_cells files_bytes (part files_at files_bytes block)) ≡ s.attribute_files
  files-back =
      ap (λ (p : List ℕ). some (unpack_cells files_bytes p)) (thirteen-part s h 7 (lit< tt))
      ∙ ap some (unpack-pack files_bytes (bytes_in s.attribute_files) (tables_of s h).attribute_files ∙ low_numbers (bytes_in s.attribute_files) files-numbers)
      ∙ some_again s.attribute_files (tables_of s h).attribute_files_there

  packet-back : some (part packet_at packet_bytes block) ≡ s.packet
  packet-back = ap some (thirteen-part s h 1 (lit< tt)) ∙ some_again s.packet (front_of s h).packet_there

  received-back : byte received_at block ≡ field received_at s
  received-back = unfold block_from front_from in refl

  packets-back : some (part store_at (16 * byte received_at block) block) ≡ s.packets
  packets-back =
      let f = front_of s h in
      let held = bytes_in s.packets in
      let few : 16 * field received_at s ≤ store_bytes = omega (arith, f.received) in
      let whole : part store_at store_bytes block ≡ held ++ replicate (store_bytes - length held) 0 = thirteen-part s h 2 (lit< tt) ∙ (unfold store_from in refl) in
      ap some
      (ap (λ (k : ℕ). part store_at (16 * k) block) received-back
      ∙ sym (take-take (16 * field received_at s) store_bytes (drop store_at block) few)
      ∙ ap (take (16 * field received_at s)) whole
      ∙ take_at held (replicate (store_bytes - length held) 0) (16 * field received_at s) f.packets)
      ∙ some_again s.packets f.packets_there

  capture-back : some (unpack_cells capture_bytes (part live_at capture_bytes block)) ≡ shades_kept s.capture
  capture-back =
      ap (λ (p : List ℕ). some (unpack_cells capture_bytes p)) (thirteen-part s h 8 (lit< tt))
      ∙ ap some (unpack-pack capture_bytes (bytes_in s.capture) (captures-of s h).capture)
      ∙ shades_again s.capture (captures-of s h).capture_there

  frozen-byte : byte frozen_on_at block ≡ is_held s.frozen_capture
  frozen-byte = unfold block_from front_from in refl

  frozen-back : cond (is_set (byte frozen_on_at block)) (some (unpack_cells capture_bytes (part frozen_at capture_bytes block))) none ≡ shades_kept s.frozen_capture
  frozen-back =
      ap (λ (k : ℕ). cond (is_set k) (some (unpack_cells capture_bytes (part frozen_at capture_bytes block))) none) frozen-byte
      ∙ frozen-kept s.frozen_capture (part frozen_at capture_bytes block) (thirteen-part s h 9 (lit< tt)) (captures-of s h).frozen_capture

  preset-byte : byte preset_on_at block ≡ field preset_on_at s
  preset-byte = unfold block_from front_from in refl

  preset-back : held (byte preset_on_at block) (part preset_at preset_bytes block) ≡ preset_kept s
  unfolding held preset_kept
  preset-back =
      ap (λ (k : ℕ). cond (is_set k) (some (part preset_at preset_bytes block)) none) preset-byte
      ∙ preset_again (is_set (field preset_on_at s)) s.preset (part preset_at preset_bytes block) (thirteen-part s h 3 (lit< tt) ∙ (unfold preset_from in refl))
      (λ e. some_again s.preset ((front_of s h).preset_there e))

  pub comes_back : state_of (block_from s) ≡ kept s
  unfolding state_of kept
  comes_back =
      λ t.
      record {
        fields = fields_back t;
        palettes = palettes-back t;
        attribute_map = map_back t;
        system_palettes = system-back t;
        attribute_files = files-back t;
        packet = packet-back t;
        packets = packets-back t;
        capture = capture-back t;
        frozen_capture = frozen-back t;
        preset = preset-back t;
        border_tiles = some (thirteen-part s h 10 (lit< tt) t);
        border_map = some (thirteen-part s h 11 (lit< tt) t);
        border_palettes = some (thirteen-part s h 12 (lit< tt) t);
      }

-- ---- of a state that is taken, whole and thing by thing

taken-cells : (b : List ℕ) (s : State) → from_answer b s ≡ 0 → cells_fit s ≡ true
unfolding from_answer
taken-cells b s e = go (eqb (length b) block_bytes) (fits s) (cells_fit s) e
  where
    go : (p q r : Bool) → cond p (cond q (cond r (broken_number (broken (block_from s))) 9) 8) 1 ≡ 0 → r ≡ true
    go true true true z = refl
    go true true false z = absurd (omega (arith, z))
    go true false r z = absurd (omega (arith, z))
    go false q r z = absurd (omega (arith, z))

module _ (b : List ℕ) (s : State) (e : from_answer b s ≡ 0) where
  pub in-out : state_of (block_from s) ≡ kept s
  in-out = comes_back s (taken-fits b s e).0 (taken-cells b s e)

  -- a shade keeps its low two bits
  pub shades-forgotten : ((state_of (block_from s)).capture ≡ shades_kept s.capture) × ((state_of (block_from s)).frozen_capture ≡ shades_kept s.frozen_capture)
  shades-forgotten = (ap (λ (x : State). x.capture) in-out ∙ (unfold kept in refl), ap (λ (x : State). x.frozen_capture) in-out ∙ (unfold kept in refl))

  -- beside a countdown of 0 there is no kind
  pub kind-forgotten : field countdown_at s ≡ 0 → leb (field kind_at s) 4 ≡ true → field kind_at (state_of (block_from s)) ≡ 0
  unfolding kept kind_taken
  kind-forgotten z k = ap (field kind_at) in-out ∙ rw (z, k)

  -- a preset without its flag
  pub preset-forgotten : is_set (field preset_on_at s) ≡ false → (state_of (block_from s)).preset ≡ none
  unfolding kept preset_kept
  preset-forgotten z = ap (λ (x : State). x.preset) in-out ∙ rw z

  -- a border of which a span is missing is empty
  pub border-forgotten : border_of s ≡ false
      → ((state_of (block_from s)).border_tiles ≡ some (replicate tiles_bytes 0))
      × (((state_of (block_from s)).border_map ≡ some (replicate border_map_bytes 0)) × ((state_of (block_from s)).border_palettes ≡ some (replicate border_palettes_bytes 0)))
  unfolding kept border_from
  border-forgotten z =
      let emptied : (n : ℕ) (o : Option (List ℕ)) → some (border_from (border_of s) n o) ≡ some (replicate n 0) =
      λ n o. ap (λ (t : Bool). some (cond t (bytes_in o) (replicate n 0))) z in (
        ap (λ (x : State). x.border_tiles) in-out ∙ emptied tiles_bytes s.border_tiles,
        (ap (λ (x : State). x.border_map) in-out ∙ emptied border_map_bytes s.border_map, ap (λ (x : State). x.border_palettes) in-out ∙ emptied border_palettes_bytes s.border_palettes),
      )

whole_is : (x y z : Option (List ℕ)) → whole_border x y z ≡ true → (is_there x && (is_there y && is_there z)) ≡ true
unfolding whole_border
whole_is x y z e = e

-- the fields, with another kind
abbrev kind_over : List ℕ → ℕ → List ℕ
kind_over f k =
    get_or f mask_at 0 ∷ get_or f index_at 0 ∷ get_or f pads_at 0 ∷ get_or f p15_at 0 ∷ get_or f both_at 0 ∷ get_or f stage_at 0 ∷ get_or f expected_at 0 ∷ get_or f received_at 0
    ∷ get_or f bits_at 0 ∷ get_or f preset_on_at 0 ∷ get_or f countdown_at 0 ∷ k ∷ []

-- what must be so that nothing is forgotten
pub record Lasting (s : State) : Type 0 where
  pub shades : palette_numbers (bytes_in s.capture) ≡ true
  pub frozen_shades : palette_numbers (bytes_in s.frozen_capture) ≡ true
  pub kind : kind_taken (field countdown_at s) (field kind_at s) ≡ field kind_at s
  pub preset : preset_kept s ≡ s.preset
  pub border : border_of s ≡ true

shades-last : (o : Option (List ℕ)) → palette_numbers (bytes_in o) ≡ true → shades_kept o ≡ o
unfolding shades_kept bytes_in
shades-last none e = refl
shades-last (some l) e = ap some (low_numbers l e)

border-last : (t : Bool) (n : ℕ) (o : Option (List ℕ)) → t ≡ true → is_there o ≡ true → some (border_from t n o) ≡ o
unfolding border_from
border-last true n o e h = some_again o h
border-last false n o e h = absurd (false≢true e)

pub nothing_forgotten : (b : List ℕ) (s : State) → from_answer b s ≡ 0 → Lasting s → state_of (block_from s) ≡ s
nothing_forgotten b s e l = in-out b s e ∙ lasts
  where
    long : length s.fields ≡ field_bytes
    long = (front_of s (taken-fits b s e).0).fields

    twelve : heads field_bytes 0 s.fields [] ≡ s.fields
    twelve =
        let le : length s.fields ≤ field_bytes = omega (arith, long) in
        ap (heads field_bytes 0 s.fields) (sym (drop_of_length-le s.fields le)) ∙ heads-eq field_bytes 0 s.fields (omega (arith, long))

    fields-last : fields_kept s ≡ s.fields
    fields-last = ap (kind_over s.fields) l.kind ∙ twelve

    there : (is_there s.border_tiles ≡ true) × ((is_there s.border_map ≡ true) × (is_there s.border_palettes ≡ true))
    there =
        let w : (is_there s.border_tiles && (is_there s.border_map && is_there s.border_palettes)) ≡ true = whole_is s.border_tiles s.border_map s.border_palettes l.border in
        let r = and_right (is_there s.border_tiles) _ w in
        (and_left (is_there s.border_tiles) _ w, (and_left (is_there s.border_map) _ r, and_right (is_there s.border_map) _ r))

    lasts : kept s ≡ s
    lasts =
        unfold kept in
        λ t.
        record {
          fields = fields-last t;
          palettes = s.palettes;
          attribute_map = s.attribute_map;
          system_palettes = s.system_palettes;
          attribute_files = s.attribute_files;
          packet = s.packet;
          packets = s.packets;
          capture = shades-last s.capture l.shades t;
          frozen_capture = shades-last s.frozen_capture l.frozen_shades t;
          preset = l.preset t;
          border_tiles = border-last (border_of s) tiles_bytes s.border_tiles l.border there.0 t;
          border_map = border-last (border_of s) border_map_bytes s.border_map l.border there.1.0 t;
          border_palettes = border-last (border_of s) border_palettes_bytes s.border_palettes l.border there.1.1 t;
        }
