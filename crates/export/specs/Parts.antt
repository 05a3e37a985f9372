-- What crosses to C in another form than the call answers it: a part of lent bytes, told by where it stands (a reference can't be
-- answered to C), and a colour of three bytes, told as one number. That a part is where it is told to be is proofs/Places.
use Rattle.std.specs.Prelude.{ℕ, zero, suc, ◌+◌, ◌*◌, cond, List, [], eqb, length, take, drop}
use Rattle.std.proofs.Math.Option.{Option, none, some}
use Rattle.colour.specs.declared.Rgb8.{Rgb8}
use Rattle.screen.specs.Displayed.{displayed}
use Rattle.border.specs.Tile.{tile_part}

-- where a part stands, none if it is empty
unfoldable pub placed : List ℕ → ℕ → Option ℕ
placed part place = cond (eqb (length part) 0) none (some place)

-- which of the two captures is displayed: 0 the live one, 1 the frozen one
unfoldable pub capture : List ℕ → List ℕ → ℕ → Option ℕ
capture live frozen mode = placed (displayed live frozen mode) (cond (eqb mode 1) 1 0)

-- the first of tile n's 32 bytes in the lent tiles
unfoldable pub tile_at : List ℕ → ℕ → Option ℕ
tile_at tiles n = placed (tile_part tiles n) (n * 32)

-- ---- the part that such an answer leads to

unfoldable pub capture_read : Option ℕ → List ℕ → List ℕ → List ℕ
capture_read none live frozen = []
capture_read (some zero) live frozen = live
capture_read (some (suc k)) live frozen = frozen

unfoldable pub tile_read : Option ℕ → List ℕ → List ℕ
tile_read none tiles = []
tile_read (some at) tiles = take 32 (drop at tiles)

-- ---- a colour: RRGGBB hex

abbrev pub rgb_number : Rgb8 → ℕ
rgb_number c = (c.r * 256 + c.g) * 256 + c.b
