-- The screen that carries a page, pixel by pixel: which bit of which byte of the page is the low, and which the high bit of a shade. RULES 5.6,
-- `page_of` of the crate `transfer` the other way round; Pan Docs, VRAM transfers. And the call that makes it: RULES 2.1 and 2.2.
use Rattle.std.specs.Prelude.{ℕ, ◌+◌, ◌*◌, ◌/◌, ◌%◌, ◌<◌, ◌≤◌, ◌≡◌, cond, List, ◌++◌, eqb, ltb, leb, length, get_or, drop}
use Rattle.parts.specs.Parts.{capture_bytes}
use Rattle.bits.specs.Answer.{Answer, refused, given}
use Rattle.bits.specs.Pair.{packed}
use Rattle.bits.specs.Plane.{shade_by}
use Rattle.bits.specs.Tab.{tab}
use Rattle.screen.specs.Packed.{shade_at}
use Rattle.transfer.specs.Page.{page_bytes}
use Rattle.view.specs.Looks.{leaves}

-- the tile at column x of row y of a screen: 8 by 8 pixels each, twenty to a row of tiles
abbrev pub tile_number : ℕ → ℕ → ℕ
tile_number x y = y / 8 * 20 + x / 8

-- a page fills so many tiles; the other 104 of a screen's 360 carry nothing
abbrev pub page_tiles : ℕ
page_tiles = 256

-- plane p (0 low, 1 high) of row r of tile t: sixteen bytes a tile, two a row
abbrev pub page_byte : List ℕ → ℕ → ℕ → ℕ → ℕ
page_byte page t r p = get_or page (t * 16 + r * 2 + p) 0

-- the shade at column x of row y: of its tile's row, bit 7 - x % 8 of the first byte is the low bit, and that of the second the high bit
unfoldable pub page_shade : List ℕ → ℕ → ℕ → ℕ
page_shade page x y =
    cond (ltb (tile_number x y) page_tiles)
    (shade_by (page_byte page (tile_number x y) (y % 8) 0) (page_byte page (tile_number x y) (y % 8) 1) (x % 8))
    0

-- row by row, four pixels a byte
unfoldable pub screen_of : List ℕ → List ℕ
screen_of page = tab capture_bytes (λ i. packed (λ j. page_shade page ((4 * i + j) % 160) ((4 * i + j) / 160)))

-- a screen whose other tiles are shade 0
abbrev pub OthersBlank : List ℕ → Type 0
OthersBlank screen = (x y : ℕ) → x < 160 → y < 144 → page_tiles ≤ tile_number x y → shade_at screen x y ≡ 0

-- ---- the call: refusal 10 (another length than a page's), then 6 (room for less than a screen)

unfoldable pub page_screen_answer : List ℕ → List ℕ → Answer ℕ
page_screen_answer page out = cond (eqb (length page) page_bytes) (cond (leb capture_bytes (length out)) (given capture_bytes) (refused 6)) (refused 10)

-- the screen at the front of the output, which keeps its tail; or every byte as it was
unfoldable pub page_screen_left : List ℕ → List ℕ → List ℕ
page_screen_left page out = leaves (page_screen_answer page out) (screen_of page ++ drop capture_bytes out) out
