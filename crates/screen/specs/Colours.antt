-- The colour of a screen's pixel: a word of sixteen bits, all kept.
-- RULES 6.4 and 6.5. While the preset is in force it stands for all four palettes, as in the Rust's `render_data`.
use Rattle.std.specs.Prelude.{ℕ, ◌+◌, ◌*◌, ◌/◌, Bool, cond, List, eqb}
use Rattle.bits.specs.Word.{word_at}
use Rattle.screen.specs.Packed.{shade_at, cell_at}

-- colour k of palette n: four words a palette
unfoldable pub palette_colour : List ℕ → List ℕ → Bool → ℕ → ℕ → ℕ
palette_colour palettes preset in_force n k = cond in_force (word_at preset (k * 2)) (word_at palettes (n * 8 + k * 2))

-- the backdrop: palette 0's first colour
unfoldable pub backdrop_of : List ℕ → List ℕ → Bool → ℕ
backdrop_of palettes preset in_force = palette_colour palettes preset in_force 0 0

-- a shade under palette n: shade 0 shows the backdrop, whatever the palette
unfoldable pub shaded_of : List ℕ → List ℕ → Bool → ℕ → ℕ → ℕ
shaded_of palettes preset in_force n shade =
    cond (eqb shade 0) (backdrop_of palettes preset in_force) (palette_colour palettes preset in_force n shade)

-- the same under a mask mode: 2 is black, 3 the backdrop
unfoldable pub masked_of : List ℕ → List ℕ → Bool → ℕ → ℕ → ℕ → ℕ
masked_of palettes preset in_force mode n shade =
    cond (eqb mode 2) 0 (cond (eqb mode 3) (backdrop_of palettes preset in_force) (shaded_of palettes preset in_force n shade))

-- a shade at column x of row y, by the cell's palette: the Rust's `color_at`
unfoldable pub colour_at : List ℕ → List ℕ → Bool → List ℕ → ℕ → ℕ → ℕ → ℕ
colour_at palettes preset in_force attributes x y shade = shaded_of palettes preset in_force (cell_at attributes (x / 8) (y / 8)) shade

-- the pixel at column x of row y of the screen shown
unfoldable pub screen_pixel : List ℕ → List ℕ → Bool → List ℕ → List ℕ → ℕ → ℕ → ℕ → ℕ
screen_pixel palettes preset in_force attributes screen mode x y =
    masked_of palettes preset in_force mode (cell_at attributes (x / 8) (y / 8)) (shade_at screen x y)
