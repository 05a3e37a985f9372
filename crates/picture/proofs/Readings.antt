-- RULES 6.3 to 6.6, as laws of the definitions: what covers what, where the screen stands, whose colours it has, and
-- what a flip does to a tile.
use Prim.Native.Nat.{ℕ, ◌+◌, ◌-◌, ◌*◌, ◌/◌, ◌%◌, ◌^◌, ◌<◌, ◌≤◌}
use mathlib.Core.Path.{◌≡◌, refl, sym, ◌∙◌}
use mathlib.Core.Bool.{Bool, true, false, cond, ◌&&◌, not-eq-not}
use mathlib.Core.List.{List}
use mathlib.Core.Option.{none, some}
use native.Mathlib.Omega.{arith}
use borrow.Author.Tests.{leb-true, ltb-true, le-leb, lt-ltb, eq-eqb, ne_eqb}
use lib.Dec.{ltb, leb}
use Rattle.bits.specs.Bit.{bit_of}
use Rattle.bits.specs.Word.{word_at}
use Rattle.bits.proofs.Tests.{and_both}
use Rattle.colour.specs.Entry.{tile_of, palette_of, flip_x, flip_y}
use Rattle.screen.specs.Packed.{shade_at, cell_at}
use Rattle.screen.specs.Colours.{palette_colour, backdrop_of, shaded_of, masked_of, screen_pixel}
use Rattle.border.specs.Tile.{tile_part, index_in}
use Rattle.border.specs.Border.{draws, flipped, index_of, border_at}
use Rattle.picture.specs.Picture.{Parts, on_screen, below, pixel_at}

-- ---- the border over all, and the screen at its place over the backdrop

module _ (p : Parts) (x y : ℕ) where
  -- an opaque pixel of the border covers what is below, and a transparent one shows it
  pub border-covers : (c : ℕ) → border_at p.tiles p.map p.borders x y ≡ some c → pixel_at p x y ≡ c
  unfolding pixel_at
  border-covers c e = rw e

  pub border-shows : border_at p.tiles p.map p.borders x y ≡ none → pixel_at p x y ≡ below p x y
  unfolding pixel_at
  border-shows e = rw e

  -- columns 48 to 207 of rows 40 to 183 show the screen's pixels, from its first on
  abbrev pub OnScreen : Type 0
  OnScreen = (48 ≤ x) × (x < 48 + 160) × (40 ≤ y) × (y < 40 + 144)

  pub on-screen : OnScreen
      → below p x y ≡ screen_pixel p.palettes p.preset p.in_force p.attributes p.screen p.mode (x - 48) (y - 40)
  unfolding below
  on-screen (a, b, c, d) = rw (le-leb 48 x a, lt-ltb x (48 + 160) b, le-leb 40 y c, lt-ltb y (40 + 144) d)

  on-says : on_screen x y ≡ true → OnScreen
  on-says e =
      let f = and_both (leb 48 x && ltb x (48 + 160)) (leb 40 y && ltb y (40 + 144)) e in
      let g = and_both (leb 48 x) (ltb x (48 + 160)) f.0 in
      let k = and_both (leb 40 y) (ltb y (40 + 144)) f.1 in
      (leb-true 48 x g.0, ltb-true x (48 + 160) g.1, leb-true 40 y k.0, ltb-true y (40 + 144) k.1)

  pub off-screen : (OnScreen → ⊥) → below p x y ≡ backdrop_of p.palettes p.preset p.in_force
  unfolding below
  off-screen h = let n : on_screen x y ≡ false = not-eq-not.0 (λ e. h (on-says e)) in rw n

-- ---- a pixel of the screen that is shown, neither black nor masked by the backdrop

module _ (palettes preset : List ℕ) (in_force : Bool) (attributes screen : List ℕ) (mode x y : ℕ) where
  -- mode 2 is black, mode 3 the backdrop
  pub black : mode ≡ 2 → screen_pixel palettes preset in_force attributes screen mode x y ≡ 0
  unfolding screen_pixel masked_of
  black e = rw (eq-eqb mode 2 e)

  pub masked : mode ≡ 3 → screen_pixel palettes preset in_force attributes screen mode x y ≡ backdrop_of palettes preset in_force
  unfolding screen_pixel masked_of
  masked e = rw (ne_eqb mode 2 (λ q. omega arith), eq-eqb mode 3 e)

  module _ (seen : mode ≤ 1) where
    -- shade 0 is the backdrop, whatever the cell's palette
    pub shade-0 : shade_at screen x y ≡ 0 → screen_pixel palettes preset in_force attributes screen mode x y ≡ backdrop_of palettes preset in_force
    unfolding screen_pixel masked_of shaded_of
    shade-0 e = rw (ne_eqb mode 2 (λ q. omega arith), ne_eqb mode 3 (λ q. omega arith), eq-eqb (shade_at screen x y) 0 e)

    -- with the preset not in force any other shade is a colour of the cell's palette: four words a palette
    pub by-cell : in_force ≡ false → (shade_at screen x y ≡ 0 → ⊥)
        → screen_pixel palettes preset in_force attributes screen mode x y ≡ word_at palettes (cell_at attributes (x / 8) (y / 8) * 8 + shade_at screen x y * 2)
    unfolding screen_pixel masked_of shaded_of palette_colour
    by-cell f e = rw (ne_eqb mode 2 (λ q. omega arith), ne_eqb mode 3 (λ q. omega arith), ne_eqb (shade_at screen x y) 0 e, f)

    -- and while it is in force, the preset's, whatever the cell
    pub by-preset : in_force ≡ true → (shade_at screen x y ≡ 0 → ⊥)
        → screen_pixel palettes preset in_force attributes screen mode x y ≡ word_at preset (shade_at screen x y * 2)
    unfolding screen_pixel masked_of shaded_of palette_colour
    by-preset f e = rw (ne_eqb mode 2 (λ q. omega arith), ne_eqb mode 3 (λ q. omega arith), ne_eqb (shade_at screen x y) 0 e, f)

-- the backdrop is colour 0 of palette 0, or the preset's first
pub backdrop-by : (palettes preset : List ℕ) → (backdrop_of palettes preset false ≡ word_at palettes 0) × (backdrop_of palettes preset true ≡ word_at preset 0)
unfolding backdrop_of palette_colour
backdrop-by palettes preset = (refl, refl)

-- ---- flips

-- two words with one tile and one palette show one index where their flips lead to one place of the tile
same_place : (tiles : List ℕ) (v w x y i j : ℕ) → tile_of v ≡ tile_of w → palette_of v ≡ palette_of w → flipped (flip_x v) x ≡ flipped (flip_x w) i
    → flipped (flip_y v) y ≡ flipped (flip_y w) j → index_of tiles v x y ≡ index_of tiles w i j
unfolding index_of draws
same_place tiles v w x y i j a b c d =
    λ t. cond (leb (a t) 255 && (leb 4 (b t) && leb (b t) 6)) (index_in (tile_part tiles (a t)) (d t) (c t)) 0

flip_on : (v k x : ℕ) → v / 2 ^ k % 2 ≡ 1 → flipped (bit_of k v) x ≡ 7 - x
unfolding flipped bit_of
flip_on v k x e = rw (eq-eqb (v / 2 ^ k % 2) 1 e)

flip_off : (v k x : ℕ) → v / 2 ^ k % 2 ≡ 0 → flipped (bit_of k v) x ≡ x
unfolding flipped bit_of
flip_off v k x e = rw (ne_eqb (v / 2 ^ k % 2) 1 (λ q. omega arith))

-- of a word without flips: bit 14 shows its tile with left and right exchanged, and bit 15 with top and bottom exchanged
module _ (tiles : List ℕ) (w x y : ℕ) (plain : w < 2 ^ 14) where
  pub flip-x : index_of tiles (w + 2 ^ 14) x y ≡ index_of tiles w (7 - x) y
  unfolding tile_of palette_of flip_x flip_y
  flip-x =
      same_place tiles (w + 2 ^ 14) w x y (7 - x) y (omega arith) (omega arith)
      (flip_on (w + 2 ^ 14) 14 x (omega arith) ∙ sym (flip_off w 14 (7 - x) (omega arith)))
      (flip_off (w + 2 ^ 14) 15 y (omega arith) ∙ sym (flip_off w 15 y (omega arith)))

  pub flip-y : index_of tiles (w + 2 ^ 15) x y ≡ index_of tiles w x (7 - y)
  unfolding tile_of palette_of flip_x flip_y
  flip-y =
      same_place tiles (w + 2 ^ 15) w x y x (7 - y) (omega arith) (omega arith)
      (flip_off (w + 2 ^ 15) 14 x (omega arith) ∙ sym (flip_off w 14 x (omega arith)))
      (flip_on (w + 2 ^ 15) 15 y (omega arith) ∙ sym (flip_off w 15 (7 - y) (omega arith)))
