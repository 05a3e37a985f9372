-- Serves the loop over a row; nobody need believe it. How the picture is drawn: by runs of eight pixels, from tables of colours made once.
-- What a pixel is stands in `picture`, specs/Picture; that the runs give it is proved there: proofs/Whole, `row_is`.
use Rattle.std.specs.Prelude.{ℕ, ◌+◌, ◌-◌, ◌*◌, ◌/◌, ◌%◌, ◌^◌, ◌<◌, ◌≡◌, Bool, cond, ◌&&◌, List, ltb, leb, eqb, length, get_or}
use Rattle.parts.specs.Parts.{map_bytes, capture_bytes, tiles_bytes, border_map_bytes}
use Rattle.bits.specs.Tab.{tab}
use Rattle.colour.specs.Entry.{palette_of}
use Rattle.screen.specs.Packed.{pair_at, cell_at}
use Rattle.border.specs.Border.{entry_at, draws, index_of}
use Rattle.picture_lanes.specs.Lanes.{spread_of}

-- the lent parts have their lengths
pub record Lent (tiles map attributes screen : List ℕ) : Type 0 where
  pub tiles_long : length tiles ≡ tiles_bytes
  pub map_long : length map ≡ border_map_bytes
  pub attributes_long : length attributes ≡ map_bytes
  pub screen_long : length screen ≡ capture_bytes

-- the tables: plane bytes spread over lanes; the border's 48 colours, with the backdrop as the first of each palette; four colours a palette
pub record Tables (spreads border game : List ℕ) : Type 0 where
  pub spread : spreads ≡ tab 512 spread_of
  pub border_long : length border ≡ 48
  pub game_long : length game ≡ 16
  pub second : get_or border 16 0 ≡ get_or border 0 0
  pub third : get_or border 32 0 ≡ get_or border 0 0

-- what a run is drawn from: the lent parts, and the two tables of colours
pub record Source : Type 0 where
  pub tiles : List ℕ
  pub map : List ℕ
  pub attributes : List ℕ
  pub screen : List ℕ
  pub border : List ℕ
  pub game : List ℕ

-- where the palette of a word that draws starts among the border's colours
unfoldable pub base_of : ℕ → ℕ
base_of w = cond (draws w) ((palette_of w - 4) * 16) 0

-- shade j of the eight that a word packs, the first in the highest pair
unfoldable pub lane_shade : ℕ → ℕ → ℕ
lane_shade s j = s / 2 ^ (14 - 2 * j) % 4

-- s packs the eight numbers of a packed list from the k-th on
pub record Packs (s : ℕ) (b : List ℕ) (k : ℕ) : Type 0 where
  pub is : (j : ℕ) → j < 8 → lane_shade s j ≡ pair_at b (k + j)

-- the screen's cells are columns 6 to 25 of the border's, from row 40 to row 183
unfoldable pub within : ℕ → ℕ → Bool
within c y = (leb 6 c && ltb c 26) && (leb 40 y && ltb y (40 + 144))

-- the screen's first pixel there
abbrev pub screen_from : ℕ → ℕ → ℕ
screen_from c y = (y - 40) * 160 + (c - 6) * 8

-- a pixel of a run, from its colour index, the border's colours and what is below
abbrev pub run_pixel : ℕ → List ℕ → ℕ → ℕ → ℕ
run_pixel i border base below = cond (eqb i 0) below (get_or border (base + i) 0)

-- pixel j of the run at border column c of row y
unfoldable pub pixel_in : Source → ℕ → ℕ → ℕ → ℕ
pixel_in from c y j =
    run_pixel (index_of from.tiles (entry_at from.map c (y / 8)) j (y % 8)) from.border (base_of (entry_at from.map c (y / 8)))
    (cond (within c y) (get_or from.game (cell_at from.attributes (c - 6) ((y - 40) / 8) * 4 + pair_at from.screen (screen_from c y + j)) 0) (get_or from.border 0 0))
