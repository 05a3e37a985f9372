-- Small examples, computed: the definitions say what they are meant to.
-- Assumes nothing.
use mathlib.Core.Path.{◌≡◌, refl}
use mathlib.Core.Bool.{true, false}
use mathlib.Core.List.{List, [], ◌∷◌}
use Prim.Native.Nat.{ℕ}
use Rattle.bits.specs.Bit.{bit_at}
use Rattle.colour.specs.Entry.{tile_of, palette_of}
use Rattle.border.specs.Tile.{index_in}
use Rattle.border.specs.Border.{draws}

-- word 5003 (tile 3, palette 4) draws; with palette 7, 3 or with tile 256 it doesn't
pub drawn : (draws 20483 ≡ true) × (draws 7171 ≡ false) × (draws 3075 ≡ false) × (draws 4352 ≡ false)
unfolding draws tile_of palette_of
drawn = (refl, refl, refl, refl)

abbrev tile : List ℕ
tile = 128 ∷ 64 ∷ 0 ∷ 0 ∷ 0 ∷ 0 ∷ 0 ∷ 0 ∷ 0 ∷ 0 ∷ 0 ∷ 0 ∷ 0 ∷ 0 ∷ 0 ∷ 0 ∷ 32 ∷ 16 ∷ []

-- row 0 of a tile whose planes are 80, 40 and, from byte 16 on, 20, 10 hex: indices 1, 2, 4, 8 from the left
pub four_planes : (index_in tile 0 0 ≡ 1) × (index_in tile 0 1 ≡ 2) × (index_in tile 0 2 ≡ 4) × (index_in tile 0 3 ≡ 8) × (index_in tile 0 4 ≡ 0)
unfolding index_in bit_at
four_planes = (refl, refl, refl, refl, refl)
