-- A row drawn from the tables is the row of the picture, pixel by pixel: the tables have the colours that the definition names.
-- Assumes nothing.
use Prim.Native.Nat.{ℕ, zero, suc, ◌+◌, ◌-◌, ◌*◌, ◌/◌, ◌%◌, ◌<◌, ◌≤◌}
use native.Mathlib.Omega.{arith}
use mathlib.Core.Path.{◌≡◌, refl, sym, ◌∙◌, ap, ap₂}
use mathlib.Core.Bool.{Bool, true, false, cond, ◌&&◌}
use mathlib.Core.List.{List, ◌++◌}
use mathlib.Core.Option
use mathlib.Core.Option.{none, some}
use lib.Dec.{ltb, leb, eqb}
use lib.ListN.{length, get_or, drop}
use borrow.Author.Tests.{le-leb, lt-ltb, ne_eqb, leb-true, ltb-true}
use Rattle.bits.specs.Word.{word_at}
use Rattle.bits.specs.Tab.{tab}
use Rattle.bits.specs.Paint.{Painted}
use Rattle.bits.proofs.Tabs.{get_or-tab, length-tab}
use Rattle.bits.proofs.Pairs.{pair_lt}
use Rattle.bits.proofs.Tests.{and_left, same_test}
use Rattle.bits.proofs.Painting.{painted_same, painted-tab, painted-run, painted-count}
use Rattle.colour.specs.Entry.{tile_of, palette_of, flip_x, flip_y}
use Rattle.screen.specs.Packed.{pair_at, cell_at}
use Rattle.screen.specs.Colours.{backdrop_of, masked_of, screen_pixel}
use Rattle.border.specs.Tile.{tile_part, index_in}
use Rattle.border.specs.Border.{entry_at, draws, flipped, index_of, in_palette, opaque, border_at}
use Rattle.border.proofs.Entries.{drawn-palette, index-lt}
use Rattle.picture_lanes.specs.Lanes.{spread_of}
use Rattle.picture_runs.specs.Runs.{Source, Tables, base_of, within, screen_from, run_pixel, pixel_in}
use Rattle.picture.specs.Picture.{Parts, on_screen, below, pixel_at, row_of, picture_of}
use Rattle.picture.specs.Tables.{border_color, game_color, TablesOf, pixel_on}

-- the border's table
module _ (l b : List ℕ) (back : ℕ) (e : l ≡ tab 48 (border_color b back)) where
  at : (k : ℕ) → k < 48 → get_or l k 0 ≡ border_color b back k
  at k h = ap (λ (m : List ℕ). get_or m k 0) e ∙ get_or-tab 48 (border_color b back) k h

  first : get_or l 0 0 ≡ back
  unfolding border_color
  first = at 0 (omega arith)

  -- an opaque pixel's colour
  opaque-at : (w i : ℕ) → draws w ≡ true → i < 16 → (i ≡ 0 → ⊥) → get_or l (base_of w + i) 0 ≡ in_palette b w i
  unfolding base_of border_color in_palette
  opaque-at w i d h ne =
      let q = drawn-palette w d in
      let k : ℕ = (palette_of w - 4) * 16 + i in
      let lt : k < 48 = omega (arith, q.1) in
      let off : k % 16 ≡ 0 → ⊥ = λ z. ne (omega (arith, z)) in
      ap (λ (t : Bool). get_or l (cond t ((palette_of w - 4) * 16) 0 + i) 0) d
      ∙ at k lt
      ∙ ap (λ (t : Bool). cond t back (word_at b (k * 2))) (ne_eqb (k % 16) 0 off)

  -- a run's pixel is the border's colour where it is opaque
  shows : (w i v : ℕ) (d : Bool) → draws w ≡ d → i < 16 → run_pixel (cond d i 0) l (base_of w) v ≡ Option.get_or (opaque b w (cond d i 0)) v
  unfolding opaque
  shows w i v false f h = refl
  shows w zero v true f h = refl
  shows w (suc i) v true f h =
      let ne : suc i ≡ 0 → ⊥ = λ z. omega arith in
      let t : eqb (suc i) 0 ≡ false = ne_eqb (suc i) 0 ne in
      (λ j. cond (t j) v (get_or l (base_of w + suc i) 0))
      ∙ opaque-at w (suc i) f h ne
      ∙ (λ j. Option.get_or (cond (sym t j) none (some (in_palette b w (suc i)))) v)

-- tables made from parts that are the picture's, each by itself
pub tables_of : (p : Parts) {palettes preset borders spreads border game : List ℕ} {in_force : Bool} {mode : ℕ}
    → palettes ≡ p.palettes → preset ≡ p.preset → in_force ≡ p.in_force → mode ≡ p.mode → borders ≡ p.borders
    → spreads ≡ tab 512 spread_of → border ≡ tab 48 (border_color borders (backdrop_of palettes preset in_force)) → game ≡ tab 16 (game_color palettes preset in_force mode)
    → TablesOf p spreads border game
tables_of p ep es ef em eb s b g = record {
  spread = s;
  border_is = b ∙ (λ i. tab 48 (border_color (eb i) (backdrop_of (ep i) (es i) (ef i))));
  game_is = g ∙ (λ i. tab 16 (game_color (ep i) (es i) (ef i) (em i)));
}

-- the screen's cells are where the screen is
cells : (x y : ℕ) → within (x / 8) y ≡ on_screen x y
unfolding within
cells x y =
    let a : leb 6 (x / 8) ≡ leb 48 x = same_test _ _
    (λ t. let h = leb-true 6 (x / 8) t in le-leb 48 x (omega arith)) (λ t. let h = leb-true 48 x t in le-leb 6 (x / 8) (omega arith)) in
    let b : ltb (x / 8) 26 ≡ ltb x 208 = same_test _ _
    (λ t. let h = ltb-true (x / 8) 26 t in lt-ltb x 208 (omega arith)) (λ t. let h = ltb-true x 208 t in lt-ltb (x / 8) 26 (omega arith)) in
    λ i. (a i && b i) && (leb 40 y && ltb y (40 + 144))

module _ (p : Parts) (spreads border game : List ℕ) (t : TablesOf p spreads border game) where
  back : ℕ
  back = backdrop_of p.palettes p.preset p.in_force

  -- the tables as the runs ask for them
  pub tables-are : Tables spreads border game
  unfolding border_color back
  tables-are = record {
    spread = t.spread;
    border_long = ap length t.border_is ∙ length-tab 48 (border_color p.borders back);
    game_long = ap length t.game_is ∙ length-tab 16 (game_color p.palettes p.preset p.in_force p.mode);
    second = at border p.borders back t.border_is 16 (omega arith) ∙ sym (first border p.borders back t.border_is);
    third = at border p.borders back t.border_is 32 (omega arith) ∙ sym (first border p.borders back t.border_is);
  }

  looked : (n h : ℕ) → n < 4 → h < 4 → get_or game (n * 4 + h) 0 ≡ masked_of p.palettes p.preset p.in_force p.mode n h
  unfolding game_color
  looked n h ln lh =
      let lt : n * 4 + h < 16 = omega arith in
      let a : (n * 4 + h) / 4 ≡ n = omega arith in
      let b : (n * 4 + h) % 4 ≡ h = omega arith in
      ap (λ (m : List ℕ). get_or m (n * 4 + h) 0) t.game_is
      ∙ get_or-tab 16 (game_color p.palettes p.preset p.in_force p.mode) (n * 4 + h) lt
      ∙ ap₂ (masked_of p.palettes p.preset p.in_force p.mode) a b

  small : (b : List ℕ) (k : ℕ) → pair_at b k < 4
  unfolding pair_at
  small b k = pair_lt _ _

  seen : ℕ → ℕ → ℕ
  seen x y = get_or game (cell_at p.attributes (x / 8 - 6) ((y - 40) / 8) * 4 + pair_at p.screen (screen_from (x / 8) y + x % 8)) 0

  screen_is : (x y : ℕ) → on_screen x y ≡ true
      → seen x y ≡ screen_pixel p.palettes p.preset p.in_force p.attributes p.screen p.mode (x - 48) (y - 40)
  unfolding screen_pixel seen
  screen_is x y on =
      let hx : 48 ≤ x = leb-true 48 x (and_left _ (ltb x 208) (and_left (leb 48 x && ltb x 208) (leb 40 y && ltb y (40 + 144)) on)) in
      let ec : x / 8 - 6 ≡ (x - 48) / 8 = omega arith in
      let es : screen_from (x / 8) y + x % 8 ≡ (y - 40) * 160 + (x - 48) = omega arith in
      looked (cell_at p.attributes (x / 8 - 6) ((y - 40) / 8)) (pair_at p.screen (screen_from (x / 8) y + x % 8)) (small _ _) (small _ _)
      ∙ (λ i. masked_of p.palettes p.preset p.in_force p.mode (cell_at p.attributes (ec i) ((y - 40) / 8)) (pair_at p.screen (es i)))

  below-is : (x y : ℕ) → cond (within (x / 8) y) (seen x y) (get_or border 0 0) ≡ below p x y
  unfolding below
  below-is x y =
      (λ i. cond (cells x y i) (seen x y) (first border p.borders (backdrop_of p.palettes p.preset p.in_force) t.border_is i)) ∙ go (on_screen x y) refl
    where
      go : (on : Bool) → on_screen x y ≡ on
          → cond on (seen x y) (backdrop_of p.palettes p.preset p.in_force)
          ≡ cond on (screen_pixel p.palettes p.preset p.in_force p.attributes p.screen p.mode (x - 48) (y - 40)) (backdrop_of p.palettes p.preset p.in_force)
      go true e = screen_is x y e
      go false e = refl

  -- the picture's parts, and these tables
  abbrev pub source : (tiles map attributes screen : List ℕ) → Source
  source tiles map attributes screen = record { tiles = tiles; map = map; attributes = attributes; screen = screen; border = border; game = game }

  pixel-is : (x y : ℕ) → pixel_on (source p.tiles p.map p.attributes p.screen) y x ≡ pixel_at p x y
  unfolding pixel_on pixel_in pixel_at border_at index_of seen
  pixel-is x y =
      let w : ℕ = entry_at p.map (x / 8) (y / 8) in
      let i : ℕ = index_in (tile_part p.tiles (tile_of w)) (flipped (flip_y w) (y % 8)) (flipped (flip_x w) (x % 8)) in
      ap (λ (v : ℕ). run_pixel (cond (draws w) i 0) border (base_of w) v) (below-is x y)
      ∙ shows border p.borders (backdrop_of p.palettes p.preset p.in_force) t.border_is w i (below p x y) (draws w) refl (index-lt _ _ _)

  -- from parts that are the picture's, each by itself
  module _ {tiles map attributes screen : List ℕ} (et : tiles ≡ p.tiles) (em : map ≡ p.map) (ea : attributes ≡ p.attributes) (es : screen ≡ p.screen) where
    drawn : (x y : ℕ) → pixel_on (source tiles map attributes screen) y x ≡ pixel_at p x y
    drawn x y = (λ i. pixel_on (source (et i) (em i) (ea i) (es i)) y x) ∙ pixel-is x y

    pub row_is : (y : ℕ) (o l : List ℕ) → Painted o l 0 256 (pixel_on (source tiles map attributes screen) y) → 256 ≤ length l
        → o ≡ row_of p y ++ drop 256 l
    unfolding row_of
    row_is y o l q h = painted-tab (painted_same q (λ x. pixel_at p x y) (λ x lt. drawn x y)) h

    pub picture-is : (o l : List ℕ) → Painted o l 0 57344 (λ k. pixel_on (source tiles map attributes screen) (k / 256) (k % 256)) → 57344 ≤ length l
        → o ≡ picture_of p ++ drop 57344 l
    unfolding picture_of
    picture-is o l q h = painted-tab (painted_same q (λ k. pixel_at p (k % 256) (k / 256)) (λ k lt. drawn (k % 256) (k / 256))) h

-- the next run of a row, the next row of the picture
module _ (from : Source) (y : ℕ) (l m o : List ℕ) where
  pub row_turn : (c at start : ℕ) → start ≡ at + c * 8
      → Painted m l at (c * 8) (pixel_on from y) → Painted o m start 8 (pixel_in from c y)
      → Painted o l at ((c + 1) * 8) (pixel_on from y)
  unfolding pixel_on
  row_turn c at start e p q =
      painted-count
      (painted-run p q e
      (λ i h. let a : c ≡ (c * 8 + i) / 8 = omega arith in let b : i ≡ (c * 8 + i) % 8 = omega arith in λ t. pixel_in from (a t) y (b t)))
      ((c + 1) * 8)
      (omega arith)

  pub rows_turn : Painted m l 0 (y * 256) (λ k. pixel_on from (k / 256) (k % 256))
      → Painted o m (y * 256) 256 (pixel_on from y)
      → Painted o l 0 ((y + 1) * 256) (λ k. pixel_on from (k / 256) (k % 256))
  rows_turn p q =
      painted-count
      (painted-run p q (omega arith)
      (λ i h. let a : y ≡ (y * 256 + i) / 256 = omega arith in let b : i ≡ (y * 256 + i) % 256 = omega arith in ap₂ (pixel_on from) a b))
      ((y + 1) * 256)
      (omega arith)
