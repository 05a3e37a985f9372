-- Small pictures, computed: the definitions say what they are meant to.
-- Assumes nothing.
use Prim.Native.Nat.{ℕ, ◌-◌}
use mathlib.Core.Path.{◌≡◌, refl}
use mathlib.Core.Bool.{Bool, true, false}
use mathlib.Core.List.{[], ◌∷◌, ◌++◌}
use lib.ListN.{replicate}
use Rattle.parts.specs.Parts.{tiles_bytes}
use Rattle.bits.specs.Bit.{bit_at, bit_of}
use Rattle.bits.specs.Pair.{pair_of}
use Rattle.bits.specs.Word.{word, low_byte, high_byte, word_at}
use Rattle.colour.specs.Entry.{tile_of, palette_of, flip_x, flip_y}
use Rattle.screen.specs.Packed.{pair_at}
use Rattle.screen.specs.Colours.{palette_colour, backdrop_of, shaded_of, masked_of, screen_pixel}
use Rattle.border.specs.Border.{entry_at, draws, flipped, index_of, in_palette, opaque, border_at}
use Rattle.border.specs.Tile.{tile_part, index_in}
use Rattle.picture.specs.Picture.{Parts, below, pixel_at}

-- a screen that starts with shades 0 1 2 3, under the fresh preset 67BF 265B 10B5 2866, with no border
abbrev fresh : ℕ → Parts
fresh mode = record {
  palettes = [];
  preset = 191 ∷ 103 ∷ 91 ∷ 38 ∷ 181 ∷ 16 ∷ 102 ∷ 40 ∷ [];
  in_force = true;
  attributes = [];
  screen = 27 ∷ [];
  mode = mode;
  tiles = [];
  map = [];
  borders = [];
}

-- off the screen and at shade 0 the backdrop, then the preset's other three; black is 0, and the backdrop mode the backdrop
pub corner : (pixel_at (fresh 0) 47 40 ≡ 26559) × (pixel_at (fresh 0) 48 40 ≡ 26559) × (pixel_at (fresh 0) 49 40 ≡ 9819) × (pixel_at (fresh 0) 51 40 ≡ 10342)
    × (pixel_at (fresh 2) 49 40 ≡ 0) × (pixel_at (fresh 3) 49 40 ≡ 26559)
unfolding pixel_at below border_at entry_at opaque index_of draws tile_of palette_of screen_pixel masked_of shaded_of backdrop_of palette_colour word_at word pair_at pair_of
corner = (refl, refl, refl, refl, refl, refl)

-- A picture with all its parts, by one word of the border's map, at cell (6, 5), where the screen starts. The border's tile 1 has the index
-- 5 at column 2 of row 1 alone, and colour 5 of its palette 5 is 1234 hex. The screen has shade 3 at (2, 1), in the cell (0, 0) of palette 2,
-- and shade 2 at (10, 1), in the cell (1, 0) of palette 1. Colour k of palette p is the word 10pk hex
abbrev composed : ℕ → Bool → Parts
composed w in_force = record {
  palettes =
      0x00 ∷ 0x10 ∷ 0x01 ∷ 0x10 ∷ 0x02 ∷ 0x10 ∷ 0x03 ∷ 0x10 ∷ 0x10 ∷ 0x10 ∷ 0x11 ∷ 0x10 ∷ 0x12 ∷ 0x10 ∷ 0x13 ∷ 0x10
      ∷ 0x20 ∷ 0x10 ∷ 0x21 ∷ 0x10 ∷ 0x22 ∷ 0x10 ∷ 0x23 ∷ 0x10 ∷ 0x30 ∷ 0x10 ∷ 0x31 ∷ 0x10 ∷ 0x32 ∷ 0x10 ∷ 0x33 ∷ 0x10 ∷ [];
  preset = 0xBF ∷ 0x67 ∷ 0x5B ∷ 0x26 ∷ 0xB5 ∷ 0x10 ∷ 0x66 ∷ 0x28 ∷ [];
  in_force = in_force;
  attributes = 0x90 ∷ [];
  screen = replicate 40 0 ++ (0x0C ∷ 0 ∷ 0x08 ∷ []);
  mode = 0;
  tiles = replicate 34 0 ++ (0x20 ∷ replicate 15 0 ++ (0x20 ∷ replicate (tiles_bytes - 51) 0));
  map = replicate 332 0 ++ (low_byte w ∷ high_byte w ∷ []);
  borders = replicate 42 0 ++ (0x34 ∷ 0x12 ∷ []);
}

-- tile 1 in palette 5: its opaque pixel covers the screen's, and beside it and in the next cell the screen shows
pub opaque-over-screen : (pixel_at (composed 0x1401 false) 50 41 ≡ 0x1234) × (pixel_at (composed 0x1401 false) 51 41 ≡ 0x1000) × (pixel_at (composed 0x1401 false) 58 41 ≡ 0x1012)
unfolding pixel_at below border_at entry_at opaque index_of in_palette draws flipped tile_part index_in bit_at bit_of tile_of palette_of flip_x flip_y screen_pixel masked_of shaded_of backdrop_of palette_colour word_at word low_byte high_byte pair_at pair_of
opaque-over-screen = (refl, refl, refl)

-- flipped by x it is at column 5, by y in row 6, by both at both, and the screen's pixel shows where it was: of the cell's palette
pub flipped-over-screen : (pixel_at (composed 0x5401 false) 53 41 ≡ 0x1234) × (pixel_at (composed 0x5401 false) 50 41 ≡ 0x1023)
    × (pixel_at (composed 0x9401 false) 50 46 ≡ 0x1234) × (pixel_at (composed 0x9401 false) 50 41 ≡ 0x1023)
    × (pixel_at (composed 0xD401 false) 53 46 ≡ 0x1234) × (pixel_at (composed 0xD401 false) 50 41 ≡ 0x1023)
unfolding pixel_at below border_at entry_at opaque index_of in_palette draws flipped tile_part index_in bit_at bit_of tile_of palette_of flip_x flip_y screen_pixel masked_of shaded_of backdrop_of palette_colour word_at word low_byte high_byte pair_at pair_of
flipped-over-screen = (refl, refl, refl, refl, refl, refl)

-- while the preset is in force it has the cells' colours and the backdrop, and the border its own
pub preset-over-cells : (pixel_at (composed 0x5401 true) 50 41 ≡ 0x2866) × (pixel_at (composed 0x5401 true) 58 41 ≡ 0x10B5) × (pixel_at (composed 0x5401 true) 47 41 ≡ 0x67BF) × (pixel_at (composed 0x5401 true) 53 41 ≡ 0x1234)
unfolding pixel_at below border_at entry_at opaque index_of in_palette draws flipped tile_part index_in bit_at bit_of tile_of palette_of flip_x flip_y screen_pixel masked_of shaded_of backdrop_of palette_colour word_at word low_byte high_byte pair_at pair_of
preset-over-cells = (refl, refl, refl, refl)
