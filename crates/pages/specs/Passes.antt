-- Serves the loops of `draw`; nobody need believe it. How they make the screen, in two passes over it. That it is `screen_of`, of `Pixels` next
-- door, is proofs/Passes, `screen_is`.
use Rattle.std.specs.Prelude.{ℕ, ◌+◌, ◌*◌, ◌/◌, ◌%◌, cond, List, ltb, get_or}
use Rattle.parts.specs.Parts.{capture_bytes}
use Rattle.bits.specs.Plane.{four_of}
use Rattle.bits.specs.Tab.{tab}
use Rattle.pages.specs.Pixels.{page_byte}

-- the bytes of the 104 rows of pixels that a page reaches
abbrev pub reached : ℕ
reached = 104 * 40

-- how many times four tiles of a page such a row goes through: the last row of tiles has sixteen
unfoldable pub fours_in : ℕ → ℕ
fours_in y = cond (ltb y 96) 5 4

-- byte k of such a row of four tiles, which stands from o on in the page
unfoldable pub four_byte : List ℕ → ℕ → ℕ → ℕ
four_byte page o k = get_or page (o + k / 2 * 16 + k % 2) 0

-- byte i of row y after the first pass: where two bytes will pack eight pixels, their low and their high plane. Past the page it is 0
unfoldable pub row_byte : List ℕ → ℕ → ℕ → ℕ
row_byte page y i = page_byte page (y / 8 * 20 + i / 2) (y % 8) (i % 2)

unfoldable pub laid_byte : List ℕ → ℕ → ℕ
laid_byte page k = row_byte page (k / 40) (k % 40)

unfoldable pub rows_of : List ℕ → List ℕ
rows_of page = tab capture_bytes (laid_byte page)

-- byte k after the second: the planes in its place and beside it, packed
unfoldable pub packed_byte : List ℕ → ℕ → ℕ
packed_byte rows k = four_of (k % 2) (get_or rows (2 * (k / 2)) 0) (get_or rows (2 * (k / 2) + 1) 0)
