-- What `page` prints of a page: the screen that carries it as a picture file, a binary Portable Graymap, a byte a pixel. RULES 8.8.
use Rattle.std.specs.Prelude.{ℕ, ◌-◌, ◌*◌, ◌/◌, ◌%◌, cond, List, [], ◌∷◌, ◌++◌, eqb, length}
use Rattle.parts.specs.Parts.{capture_bytes}
use Rattle.bits.specs.Tab.{tab}
use Rattle.screen.specs.Packed.{shade_at}
use Rattle.transfer.specs.Page.{page_bytes}
use Rattle.pages.specs.Pixels.{screen_of}
use Rattle.log_text.specs.Text.{number_line}

-- `P5`, `160 144` and `255`, a line each: a binary Portable Graymap, its columns and rows, its lightest grey
unfoldable pub graymap_head : List ℕ
graymap_head = 80 ∷ 53 ∷ 10 ∷ 49 ∷ 54 ∷ 48 ∷ 32 ∷ 49 ∷ 52 ∷ 52 ∷ 10 ∷ 50 ∷ 53 ∷ 53 ∷ 10 ∷ []

-- white for shade 0, black for shade 3
unfoldable pub grey_of : ℕ → ℕ
grey_of shade = 255 - 85 * shade

-- a screen packs four pixels a byte
abbrev pub pixels : ℕ
pixels = 4 * capture_bytes

-- the grey of pixel k, counted row by row
unfoldable pub grey_at : List ℕ → ℕ → ℕ
grey_at screen k = grey_of (shade_at screen (k % 160) (k / 160))

unfoldable pub graymap_of : List ℕ → List ℕ
graymap_of screen = graymap_head ++ tab pixels (grey_at screen)

-- the graymap of its screen, or `10` where the input is no page
unfoldable pub page_text : List ℕ → List ℕ
page_text input = cond (eqb (length input) page_bytes) (graymap_of (screen_of input)) (number_line 10)
