-- The SNES picture, pixel by pixel: 256 by 224 words.
-- RULES 6.6: the backdrop, on it the displayed screen, and over both the border where it is opaque. That a row by itself is that row of
-- the picture (RULES 6.7) is proofs/Rows.
use Rattle.std.specs.Prelude.{ℕ, ◌+◌, ◌-◌, ◌*◌, ◌/◌, ◌%◌, Bool, cond, ◌&&◌, List, ltb, leb}
use Rattle.std.proofs.Math.Option.{get_or}
use Rattle.bits.specs.Tab.{tab}
use Rattle.screen.specs.Colours.{backdrop_of, screen_pixel}
use Rattle.border.specs.Border.{border_at}

-- what the picture is drawn from: parts of the block, the displayed screen among them
pub record Parts : Type 0 where
  pub palettes : List ℕ
  pub preset : List ℕ
  pub in_force : Bool
  pub attributes : List ℕ
  pub screen : List ℕ
  pub mode : ℕ
  pub tiles : List ℕ
  pub map : List ℕ
  pub borders : List ℕ

-- the screen, 160 by 144, stands at (48, 40)
abbrev pub on_screen : ℕ → ℕ → Bool
on_screen x y = (leb 48 x && ltb x (48 + 160)) && (leb 40 y && ltb y (40 + 144))

-- what lies below the border
unfoldable pub below : Parts → ℕ → ℕ → ℕ
below p x y =
    cond (on_screen x y) (screen_pixel p.palettes p.preset p.in_force p.attributes p.screen p.mode (x - 48) (y - 40))
    (backdrop_of p.palettes p.preset p.in_force)

-- the pixel at column x of row y: the border's colour where it is opaque
unfoldable pub pixel_at : Parts → ℕ → ℕ → ℕ
pixel_at p x y = get_or (border_at p.tiles p.map p.borders x y) (below p x y)

unfoldable pub row_of : Parts → ℕ → List ℕ
row_of p y = tab 256 (λ x. pixel_at p x y)

-- row after row
unfoldable pub picture_of : Parts → List ℕ
picture_of p = tab (224 * 256) (λ k. pixel_at p (k % 256) (k / 256))
