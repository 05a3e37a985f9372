-- Examples of RULES 10.1 and small ones, computed: the definitions say what they are meant to.
-- Assumes nothing.
use mathlib.Core.Path.{◌≡◌, refl}
use mathlib.Core.List.{[], ◌∷◌}
use Rattle.bits.specs.Bit.{bit_at}
use Rattle.bits.specs.Pair.{pair_of}
use Rattle.bits.specs.Plane.{byte_of}
use Rattle.screen.specs.Packed.{pair_at}
use Rattle.transfer.specs.Page.{plane_byte}

-- the planes of the shades 0 to 3, twice, here as the first eight pixels of a screen, which are row 0 of tile 0
pub first-row : (plane_byte (27 ∷ 27 ∷ []) 0 0 0 ≡ 85) × (plane_byte (27 ∷ 27 ∷ []) 0 0 1 ≡ 51)
unfolding plane_byte byte_of bit_at pair_at pair_of
first-row = (refl, refl)

-- the next eight are row 0 of tile 1, and row 1 of tile 0 starts forty bytes on: black as far as this list goes
pub next-tile : (plane_byte (0 ∷ 0 ∷ 27 ∷ 27 ∷ []) 1 0 1 ≡ 51) × (plane_byte (27 ∷ 27 ∷ []) 0 1 0 ≡ 0)
unfolding plane_byte byte_of bit_at pair_at pair_of
next-tile = (refl, refl)
