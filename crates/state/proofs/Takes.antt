-- A state that fits: what its rules are, and that the parts written one after the other are the block that it gives.
use mathlib.Core.Path.{◌≡◌, ap, ◌∙◌}
use mathlib.Core.Bool.{true}
use mathlib.Core.List.{List}
use Prim.Native.Nat.{ℕ}
use lib.ListN.{length}
use Rattle.bits.specs.Over.{over}
use Rattle.broken.specs.Broken.{broken, broken_number}
use Rattle.layout.specs.Block.{is_held}
use Rattle.parts.specs.Parts.{block_bytes, palettes_at, palettes_bytes, map_at, map_bytes, system_at, system_bytes, files_at, files_bytes, live_at, capture_bytes, frozen_at, tiles_at, tiles_bytes, border_map_at, border_map_bytes, border_palettes_at, border_palettes_bytes}
use Rattle.state_cells.specs.Cells.{pack_cells}
use Rattle.state_cells.proofs.Celling.{length-pack_cells}
use Rattle.state_spans.specs.State.{State, bytes_in}
use Rattle.state_spans.specs.Coming.{fits, whole_border, front_from, frozen_from, border_from, border_of, block_from}
use Rattle.state_spans.proofs.Blocks.{tables_of, border-of, front-sized, length-frozen, length-border, parts-written}
use Rattle.state_in.specs.Front.{front_number}
use Rattle.state_in.proofs.Ruled.{front-number}

module _ (s : State) (h : fits s ≡ true) where
  -- the front, as the definition has it
  abbrev pub front_in : List ℕ
  front_in = front_from s.fields (is_held s.frozen_capture) s.packet s.packets s.preset

  pub number_is : (f : List ℕ) (n : ℕ) → f ≡ front_in → n ≡ front_number f → n ≡ broken_number (broken (block_from s))
  number_is f n e g = g ∙ ap front_number e ∙ front-number s h

  -- a border that is whole has its lengths
  pub tiles_long : border_of s ≡ true → length (bytes_in s.border_tiles) ≡ tiles_bytes
  tiles_long e = (border-of s h).tiles (unfold whole_border in e)

  pub map_long : border_of s ≡ true → length (bytes_in s.border_map) ≡ border_map_bytes
  map_long e = (border-of s h).map (unfold whole_border in e)

  pub palettes_long : border_of s ≡ true → length (bytes_in s.border_palettes) ≡ border_palettes_bytes
  palettes_long e = (border-of s h).palettes (unfold whole_border in e)

  -- every part in its place
  pub block-is : (b0 b1 b2 b3 f : List ℕ) → length b0 ≡ block_bytes → f ≡ front_in
      → b1 ≡ over files_at files_bytes (pack_cells files_bytes (bytes_in s.attribute_files)) (over system_at system_bytes (bytes_in s.system_palettes)
      (over map_at map_bytes (pack_cells map_bytes (bytes_in s.attribute_map)) (over palettes_at palettes_bytes (bytes_in s.palettes) (over 0 palettes_at f b0))))
      → b2 ≡ over frozen_at capture_bytes (frozen_from s.frozen_capture) (over live_at capture_bytes (pack_cells capture_bytes (bytes_in s.capture)) b1)
      → b3 ≡ over border_palettes_at border_palettes_bytes (border_from (border_of s) border_palettes_bytes s.border_palettes)
      (over border_map_at border_map_bytes (border_from (border_of s) border_map_bytes s.border_map)
      (over tiles_at tiles_bytes (border_from (border_of s) tiles_bytes s.border_tiles) b2))
      → b3 ≡ block_from s
  unfolding block_from
  block-is b0 b1 b2 b3 f long e e1 e2 e3 =
      let t = tables_of s h in
      let tiles = border_from (border_of s) tiles_bytes s.border_tiles in
      let map = border_from (border_of s) border_map_bytes s.border_map in
      let pals = border_from (border_of s) border_palettes_bytes s.border_palettes in
      let frozen = frozen_from s.frozen_capture in
      let x = bytes_in s.palettes in
      let m = pack_cells map_bytes (bytes_in s.attribute_map) in
      let y = bytes_in s.system_palettes in
      let a = pack_cells files_bytes (bytes_in s.attribute_files) in
      let l = pack_cells capture_bytes (bytes_in s.capture) in
      e3
      ∙ (λ i. over border_palettes_at border_palettes_bytes pals (over border_map_at border_map_bytes map (over tiles_at tiles_bytes tiles (e2 i))))
      ∙ (λ i. over border_palettes_at border_palettes_bytes pals (over border_map_at border_map_bytes map (over tiles_at tiles_bytes tiles
      (over frozen_at capture_bytes frozen (over live_at capture_bytes l (e1 i))))))
      ∙ (λ i. over border_palettes_at border_palettes_bytes pals (over border_map_at border_map_bytes map (over tiles_at tiles_bytes tiles
      (over frozen_at capture_bytes frozen (over live_at capture_bytes l (over files_at files_bytes a (over system_at system_bytes y (over map_at map_bytes m
      (over palettes_at palettes_bytes x (over 0 palettes_at (e i) b0))))))))))
      ∙ parts-written b0 front_in x m y a l frozen tiles map pals
      long (front-sized s h) t.palettes (length-pack_cells map_bytes (bytes_in s.attribute_map)) t.system_palettes (length-pack_cells files_bytes (bytes_in s.attribute_files))
      (length-pack_cells capture_bytes (bytes_in s.capture)) (length-frozen s.frozen_capture)
      (length-border (border_of s) tiles_bytes s.border_tiles tiles_long)
      (length-border (border_of s) border_map_bytes s.border_map map_long)
      (length-border (border_of s) border_palettes_bytes s.border_palettes palettes_long)
