-- The block that a state gives is its parts, each of its size, and what the parts written one after the other come to.
use mathlib.Core.Path.{◌≡◌, refl, sym, ap, ◌∙◌}
use mathlib.Core.Bool.{Bool, true, false, ◌&&◌, cond}
use mathlib.Core.List.{List, [], ◌∷◌, ◌++◌, map, append_assoc}
use mathlib.Core.Option.{Option, none, some}
use Prim.Native.Nat.{ℕ, ◌-◌, ◌≤◌, ◌<◌}
use native.Mathlib.Omega.{arith}
use lib.Dec.{lit<}
use lib.ListN.{length, take, drop, get_or, set, replicate, length-append, length-replicate}
use Rattle.bits.specs.Over.{part, over}
use Rattle.bits.proofs.Tests.{and_left, and_right}
use Rattle.layout.specs.Block.{is_set, is_held, flat}
use Rattle.layout.proofs.Cut.{cut, flat-cut, sizes-cut, get-part, put-part, put-sized, length-flat}
use Rattle.parts.specs.Parts.{block_bytes, preset_on_at, header_bytes, packet_bytes, store_bytes, preset_bytes, palettes_at, palettes_bytes, map_at, map_bytes, system_at, system_bytes, files_at, files_bytes, live_at, capture_bytes, frozen_at, tiles_at, tiles_bytes, border_map_at, border_map_bytes, border_palettes_at, border_palettes_bytes, sizes, sum}
use Rattle.state_cells.proofs.Celling.{length-pack_cells}
use Rattle.state_spans.specs.State.{State, is_there, bytes_in}
use Rattle.state_spans.specs.Coming.{front_fits, tables_fit, captures_fit, border_fits, fits, header_from, store_from, preset_from, front_from, frozen_from, border_from, border_of, whole_border, parts_from, block_from}
use Rattle.state_spans.proofs.Lending.{lent_if}
use Rattle.state_spans.proofs.Fitted.{Front, front_fitted, Tables, tables_fitted, Captures, captures_fitted, Border, border_fitted}

-- ---- a list in parts

-- what stands before the palettes is one part
abbrev pub coming_sizes : List ℕ
coming_sizes =
    palettes_at ∷ palettes_bytes ∷ map_bytes ∷ system_bytes ∷ files_bytes ∷ capture_bytes ∷ capture_bytes ∷ tiles_bytes ∷ border_map_bytes ∷ border_palettes_bytes ∷ []

record Cutting (b : List ℕ) (ps : List (List ℕ)) : Type 0 where
  eq : b ≡ flat ps
  fit : map length ps ≡ coming_sizes

cutting_of : (b : List ℕ) → length b ≡ block_bytes → Cutting b (cut 0 coming_sizes b)
cutting_of b e = record { eq = sym (flat-cut 0 coming_sizes b (sym e)); fit = sizes-cut 0 coming_sizes b (omega arith) }

cutting_put : {b : List ℕ} {ps : List (List ℕ)} → Cutting b ps → (k : ℕ) → k < 10 → (ys : List ℕ) → length ys ≡ get_or coming_sizes k 0
    → Cutting (over (sum (take k coming_sizes)) (get_or coming_sizes k 0) ys b) (set ps k ys)
cutting_put {b} {ps} m k h ys e = record {
  eq = ap (over (sum (take k coming_sizes)) (get_or coming_sizes k 0) ys) m.eq ∙ put-part coming_sizes ps m.fit k h ys;
  fit = put-sized coming_sizes ps m.fit k ys e;
}

-- all ten, one after the other, whatever was there before
pub parts-written : (b f x m s a l z t u v : List ℕ) → length b ≡ block_bytes → length f ≡ palettes_at → length x ≡ palettes_bytes → length m ≡ map_bytes
    → length s ≡ system_bytes → length a ≡ files_bytes → length l ≡ capture_bytes → length z ≡ capture_bytes → length t ≡ tiles_bytes
    → length u ≡ border_map_bytes → length v ≡ border_palettes_bytes
    → over border_palettes_at border_palettes_bytes v (over border_map_at border_map_bytes u (over tiles_at tiles_bytes t (over frozen_at capture_bytes z
    (over live_at capture_bytes l (over files_at files_bytes a (over system_at system_bytes s (over map_at map_bytes m (over palettes_at palettes_bytes x
    (over 0 palettes_at f b)))))))))
    ≡ flat (f ∷ x ∷ m ∷ s ∷ a ∷ l ∷ z ∷ t ∷ u ∷ v ∷ [])
parts-written b f x m s a l z t u v eb ef ex em es ea el ez et eu ev =
    let c0 = cutting_put (cutting_of b eb) 0 (lit< tt) f ef in
    let c1 = cutting_put c0 1 (lit< tt) x ex in
    let c2 = cutting_put c1 2 (lit< tt) m em in
    let c3 = cutting_put c2 3 (lit< tt) s es in
    let c4 = cutting_put c3 4 (lit< tt) a ea in
    let c5 = cutting_put c4 5 (lit< tt) l el in
    let c6 = cutting_put c5 6 (lit< tt) z ez in
    let c7 = cutting_put c6 7 (lit< tt) t et in
    let c8 = cutting_put c7 8 (lit< tt) u eu in
    (cutting_put c8 9 (lit< tt) v ev).eq

pub flat_nested : (ps qs : List (List ℕ)) → flat (flat ps ∷ qs) ≡ flat (ps ++ qs)
flat_nested [] qs = refl
flat_nested (p ∷ ps) qs = append_assoc p (flat ps) (flat qs) ∙ ap (λ (l : List ℕ). p ++ l) (flat_nested ps qs)

-- ---- the sizes of a state's parts

pub store_long : (packets : List ℕ) → length packets ≤ store_bytes → length (packets ++ replicate (store_bytes - length packets) 0) ≡ store_bytes
store_long packets h = simp (length-append, length-replicate) (omega arith)

pub length-frozen : (o : Option (List ℕ)) → length (frozen_from o) ≡ capture_bytes
unfolding frozen_from
length-frozen none = length-replicate {A = ℕ} capture_bytes 0
length-frozen (some l) = length-pack_cells capture_bytes l

pub length-border : (whole : Bool) (n : ℕ) (o : Option (List ℕ)) → (whole ≡ true → length (bytes_in o) ≡ n) → length (border_from whole n o) ≡ n
unfolding border_from
length-border true n o h = h refl
length-border false n o h = length-replicate {A = ℕ} n 0

length-preset : (t : Bool) (o : Option (List ℕ)) → (t ≡ true → length (bytes_in o) ≡ preset_bytes) → length (cond t (bytes_in o) (replicate preset_bytes 0)) ≡ preset_bytes
length-preset true o h = h refl
length-preset false o h = length-replicate {A = ℕ} preset_bytes 0

pub length_front : (f : List ℕ) (on : ℕ) (packet packets preset : Option (List ℕ)) → length (bytes_in packet) ≡ packet_bytes → length (bytes_in packets) ≤ store_bytes
    → (is_set (get_or f preset_on_at 0) ≡ true → length (bytes_in preset) ≡ preset_bytes) → length (front_from f on packet packets preset) ≡ palettes_at
unfolding front_from store_from preset_from
length_front f on packet packets preset ep es er =
    length-flat (header_from f on ∷ bytes_in packet ∷ store_from packets ∷ preset_from (get_or f preset_on_at 0) preset ∷ [])
    ∙ (λ t. sum (header_bytes ∷ ep t ∷ store_long (bytes_in packets) es t ∷ length-preset (is_set (get_or f preset_on_at 0)) preset er t ∷ []))

-- ---- a state that fits, whichever way its spans are told

pub lent_again : (o : Option (List ℕ)) → lent_if (is_there o) (bytes_in o) ≡ o
unfolding is_there bytes_in
lent_again none = refl
lent_again (some l) = refl

module _ (s : State) (h : fits s ≡ true) where
  abbrev rest : Bool
  rest = captures_fit s.capture s.frozen_capture && border_fits s.border_tiles s.border_map s.border_palettes

  pub front-true : front_fits s.fields s.packet s.packets s.preset ≡ true
  front-true = unfold fits in and_left (front_fits s.fields s.packet s.packets s.preset) _ h

  pub tables-true : tables_fit s.palettes s.attribute_map s.system_palettes s.attribute_files ≡ true
  tables-true =
      unfold fits in
      and_left (tables_fit s.palettes s.attribute_map s.system_palettes s.attribute_files) _ (and_right (front_fits s.fields s.packet s.packets s.preset) _ h)

  pub rest-true : rest ≡ true
  rest-true =
      unfold fits in
      and_right (tables_fit s.palettes s.attribute_map s.system_palettes s.attribute_files) _ (and_right (front_fits s.fields s.packet s.packets s.preset) _ h)

  pub front_of : Front s.fields (bytes_in s.packet) (bytes_in s.packets) (bytes_in s.preset) (is_there s.packet) (is_there s.packets) (is_there s.preset)
  front_of =
      front_fitted s.fields (bytes_in s.packet) (bytes_in s.packets) (bytes_in s.preset) (is_there s.packet) (is_there s.packets) (is_there s.preset)
      ((λ t. front_fits s.fields (lent_again s.packet t) (lent_again s.packets t) (lent_again s.preset t)) ∙ front-true)

  pub tables_of : Tables (bytes_in s.palettes) (bytes_in s.attribute_map) (bytes_in s.system_palettes) (bytes_in s.attribute_files) (is_there s.palettes)
      (is_there s.attribute_map) (is_there s.system_palettes) (is_there s.attribute_files)
  tables_of =
      tables_fitted (bytes_in s.palettes) (bytes_in s.attribute_map) (bytes_in s.system_palettes) (bytes_in s.attribute_files) (is_there s.palettes)
      (is_there s.attribute_map) (is_there s.system_palettes) (is_there s.attribute_files)
      ((λ t. tables_fit (lent_again s.palettes t) (lent_again s.attribute_map t) (lent_again s.system_palettes t) (lent_again s.attribute_files t)) ∙ tables-true)

  pub captures-of : Captures (bytes_in s.capture) (bytes_in s.frozen_capture) (is_there s.capture) (is_there s.frozen_capture)
  captures-of =
      captures_fitted (bytes_in s.capture) (bytes_in s.frozen_capture) (is_there s.capture) (is_there s.frozen_capture)
      ((λ t. captures_fit (lent_again s.capture t) (lent_again s.frozen_capture t)) ∙ and_left (captures_fit s.capture s.frozen_capture) _ rest-true)

  pub border-of : Border (is_there s.border_tiles) (is_there s.border_map) (is_there s.border_palettes) (bytes_in s.border_tiles) (bytes_in s.border_map)
      (bytes_in s.border_palettes)
  border-of =
      border_fitted (is_there s.border_tiles) (is_there s.border_map) (is_there s.border_palettes) (bytes_in s.border_tiles) (bytes_in s.border_map)
      (bytes_in s.border_palettes)
      ((λ t. border_fits (lent_again s.border_tiles t) (lent_again s.border_map t) (lent_again s.border_palettes t))
      ∙ and_right (captures_fit s.capture s.frozen_capture) _ rest-true)

  whole-there : border_of s ≡ (is_there s.border_tiles && (is_there s.border_map && is_there s.border_palettes))
  whole-there = unfold whole_border in refl

  pub front-sized : length (front_from s.fields (is_held s.frozen_capture) s.packet s.packets s.preset) ≡ palettes_at
  front-sized =
      let f = front_of in
      length_front s.fields (is_held s.frozen_capture) s.packet s.packets s.preset f.packet (omega (arith, f.packets, f.received)) f.preset

  pub parts-sized : map length (parts_from s) ≡ coming_sizes
  parts-sized =
      λ t.
      front-sized t ∷ tables_of.palettes t ∷ length-pack_cells map_bytes (bytes_in s.attribute_map) t ∷ tables_of.system_palettes t
      ∷ length-pack_cells files_bytes (bytes_in s.attribute_files) t ∷ length-pack_cells capture_bytes (bytes_in s.capture) t ∷ length-frozen s.frozen_capture t
      ∷ length-border (border_of s) tiles_bytes s.border_tiles (λ e. border-of.tiles (sym whole-there ∙ e)) t
      ∷ length-border (border_of s) border_map_bytes s.border_map (λ e. border-of.map (sym whole-there ∙ e)) t
      ∷ length-border (border_of s) border_palettes_bytes s.border_palettes (λ e. border-of.palettes (sym whole-there ∙ e)) t ∷ []

  -- the block has its length, and each part stands in its place
  pub block_long : length (block_from s) ≡ block_bytes
  block_long = unfold block_from in length-flat (parts_from s) ∙ ap sum parts-sized

  pub block-part : (k : ℕ) → k < 10 → part (sum (take k coming_sizes)) (get_or coming_sizes k 0) (block_from s) ≡ get_or (parts_from s) k []
  block-part k lt = unfold block_from in get-part coming_sizes (parts_from s) parts-sized k lt

  -- the same with the front in its four parts, as the block is laid out
  abbrev thirteen : List (List ℕ)
  thirteen =
      header_from s.fields (is_held s.frozen_capture) ∷ bytes_in s.packet ∷ store_from s.packets ∷ preset_from (get_or s.fields preset_on_at 0) s.preset
      ∷ drop 1 (parts_from s)

  thirteen-is : block_from s ≡ flat thirteen
  thirteen-is =
      unfold block_from front_from in
      flat_nested
      (header_from s.fields (is_held s.frozen_capture) ∷ bytes_in s.packet ∷ store_from s.packets ∷ preset_from (get_or s.fields preset_on_at 0) s.preset ∷ [])
      (drop 1 (parts_from s))

  thirteen-sized : map length thirteen ≡ sizes
  unfolding store_from preset_from
  thirteen-sized =
      let f = front_of in
      let few : length (bytes_in s.packets) ≤ store_bytes = omega (arith, f.packets, f.received) in
      λ t.
      header_bytes ∷ f.packet t ∷ store_long (bytes_in s.packets) few t ∷ length-preset (is_set (get_or s.fields preset_on_at 0)) s.preset f.preset t
      ∷ drop 1 (parts-sized t)

  pub thirteen-part : (k : ℕ) → k < 13 → part (sum (take k sizes)) (get_or sizes k 0) (block_from s) ≡ get_or thirteen k []
  thirteen-part k lt = ap (part (sum (take k sizes)) (get_or sizes k 0)) thirteen-is ∙ get-part sizes thirteen thirteen-sized k lt
