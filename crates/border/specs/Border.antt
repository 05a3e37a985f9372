-- The border's colour at a pixel of the picture, or none where it is transparent.
-- RULES 6.1 and 6.3; Pan Docs, Border (PCT_TRN), whose palette 7 isn't drawn, as in the Rust.
use Rattle.std.specs.Prelude.{ℕ, ◌+◌, ◌-◌, ◌*◌, ◌/◌, ◌%◌, Bool, cond, ◌&&◌, List, eqb, leb, Some, None}
use Rattle.std.specs.Prelude as code
use Rattle.std.proofs.Math.Option.{Option, none, some}
use Rattle.bits.specs.Word.{word_at}
use Rattle.colour.specs.Entry.{tile_of, palette_of, flip_x, flip_y}
use Rattle.border.specs.Tile.{tile_part, index_in}
use Rattle.colour.specs.declared.Rgb555.{Rgb555}

-- the map word at a column and a row: 32 by 28
unfoldable pub entry_at : List ℕ → ℕ → ℕ → ℕ
entry_at map column row = word_at map ((row * 32 + column) * 2)

-- a word draws if transfers load its tile and its palette
unfoldable pub draws : ℕ → Bool
draws w = leb (tile_of w) 255 && (leb 4 (palette_of w) && leb (palette_of w) 6)

-- a place in a cell of eight, as a flip has it
unfoldable pub flipped : Bool → ℕ → ℕ
flipped flip k = cond flip (7 - k) k

-- the colour index that a word shows at column x of row y of its cell: 0 where it draws nothing
unfoldable pub index_of : List ℕ → ℕ → ℕ → ℕ → ℕ
index_of tiles w x y = cond (draws w) (index_in (tile_part tiles (tile_of w)) (flipped (flip_y w) y) (flipped (flip_x w) x)) 0

-- colour i of a word's palette: sixteen words a palette, the first is palette 4
unfoldable pub in_palette : List ℕ → ℕ → ℕ → ℕ
in_palette palettes w i = word_at palettes (((palette_of w - 4) * 16 + i) * 2)

-- what index i of a word's palette shows
unfoldable pub opaque : List ℕ → ℕ → ℕ → Option ℕ
opaque palettes w i = cond (eqb i 0) none (some (in_palette palettes w i))

-- at column x and row y of the picture
unfoldable pub border_at : List ℕ → List ℕ → List ℕ → ℕ → ℕ → Option ℕ
border_at tiles map palettes x y = let w : ℕ = entry_at map (x / 8) (y / 8) in opaque palettes w (index_of tiles w (x % 8) (y % 8))

-- what an answer stands for
unfoldable pub colour_of : code.Option Rgb555 → Option ℕ
colour_of None = none
colour_of (Some c) = some c.0
