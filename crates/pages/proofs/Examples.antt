-- Worked: which bit of a page is which bit of which pixel. RULES 10.2 has the same by the public call. Assumes nothing.
use mathlib.Core.Path.{◌≡◌, refl}
use mathlib.Core.List.{List, [], ◌∷◌}
use Prim.Native.Nat.{ℕ, ◌+◌, ◌*◌, ◌%◌}
use Rattle.bits.specs.Bit.{bit_at}
use Rattle.bits.specs.Pair.{packed}
use Rattle.bits.specs.Plane.{shade_by, four_of}
use Rattle.pages.specs.Pixels.{tile_number, page_shade}

-- the leftmost pixel has bit 7: of byte 0 the low bit of its shade, of byte 1 the high one
pub first-pixels : (page_shade (0x80 ∷ []) 0 0 ≡ 1) × ((page_shade (0 ∷ 0x80 ∷ []) 0 0 ≡ 2) × (page_shade (0x80 ∷ []) 1 0 ≡ 0))
unfolding page_shade shade_by bit_at
first-pixels = (refl, (refl, refl))

-- the pair of RULES 10.1, the other way round: the planes 55 and 33 are the shades 0 to 3, twice
pub pair-back : (four_of 0 0x55 0x33 ≡ 0x1B) × (four_of 1 0x55 0x33 ≡ 0x1B)
unfolding four_of packed shade_by bit_at
pair-back = (refl, refl)

-- eight columns on is the next tile, eight rows on the twentieth from there
pub next-tiles : (tile_number 7 7 ≡ 0) × ((tile_number 8 0 ≡ 1) × (tile_number 0 8 ≡ 20))
next-tiles = (refl, (refl, refl))

-- the last byte of a page is the high plane of the last row of tile 255; its bit 0 is that tile's last pixel
pub last_pixel : (tile_number 127 103 ≡ 255) × ((255 * 16 + 103 % 8 * 2 + 1 ≡ 4095) × (127 % 8 ≡ 7))
last_pixel = (refl, (refl, refl))

-- the tile behind it carries nothing, whatever the page is
pub first_blank : (page : List ℕ) → (tile_number 128 96 ≡ 256) × (page_shade page 128 96 ≡ 0)
unfolding page_shade
first_blank page = (refl, refl)
