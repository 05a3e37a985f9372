-- Serves the loops of `row` and `picture`; nobody need believe it. The tables that the runs are drawn from, made once for all rows of a
-- picture. What is drawn from them is what `Picture` next door says: proofs/Whole, `row_is` and `picture-is`.
use Rattle.std.specs.Prelude.{ℕ, ◌*◌, ◌/◌, ◌%◌, ◌≡◌, Bool, cond, List, eqb}
use Rattle.bits.specs.Word.{word_at}
use Rattle.bits.specs.Tab.{tab}
use Rattle.screen.specs.Colours.{backdrop_of, masked_of}
use Rattle.picture_lanes.specs.Lanes.{spread_of}
use Rattle.picture_runs.specs.Runs.{Source, pixel_in}
use Rattle.picture.specs.Picture.{Parts}

-- the border's 48 colours, with the backdrop where a border pixel is transparent
unfoldable pub border_color : List ℕ → ℕ → ℕ → ℕ
border_color borders back n = cond (eqb (n % 16) 0) back (word_at borders (n * 2))

-- the screen's: four shades a palette, as the mask mode lets them be seen
unfoldable pub game_color : List ℕ → List ℕ → Bool → ℕ → ℕ → ℕ
game_color palettes preset in_force mode k = masked_of palettes preset in_force mode (k / 4) (k % 4)

-- the tables of a picture: the plane bytes spread over lanes, and its colours
pub record TablesOf (p : Parts) (spreads border game : List ℕ) : Type 0 where
  pub spread : spreads ≡ tab 512 spread_of
  pub border_is : border ≡ tab 48 (border_color p.borders (backdrop_of p.palettes p.preset p.in_force))
  pub game_is : game ≡ tab 16 (game_color p.palettes p.preset p.in_force p.mode)

-- the pixel at column x of row y, drawn from the tables: pixel x % 8 of the run x / 8
unfoldable pub pixel_on : Source → ℕ → ℕ → ℕ
pixel_on from y x = pixel_in from (x / 8) y (x % 8)
