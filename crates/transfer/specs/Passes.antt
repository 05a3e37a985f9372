-- Serves the loops of `page`; nobody need believe it. How they make the page, in two passes. That it is `page_of`, of `Page` next door, is
-- proofs/Pages, `page_is`.
use Rattle.std.specs.Prelude.{ℕ, ◌+◌, ◌*◌, ◌/◌, ◌%◌, List, get_or}
use Rattle.bits.specs.Plane.{plane_of}
use Rattle.bits.specs.Tab.{tab}

-- plane p of the eight pixels that the bytes at 2 k and 2 k + 1 of a screen pack
unfoldable pub plane_at : List ℕ → ℕ → ℕ → ℕ
plane_at screen k p = plane_of p (get_or screen (2 * k) 0) (get_or screen (2 * k + 1) 0)

-- the screen's first 104 rows of forty bytes, with two plane bytes where two packed bytes stood
unfoldable pub planes_of : List ℕ → List ℕ
planes_of screen = tab 4160 (λ i. plane_at screen (i / 2) (i % 2))

-- byte i of tile t in such rows
unfoldable pub tile_byte : List ℕ → ℕ → ℕ → ℕ
tile_byte rows t i = get_or rows (t / 20 * 320 + t % 20 * 2 + i / 2 * 40 + i % 2) 0

-- tile after tile
unfoldable pub tiles_byte : List ℕ → ℕ → ℕ
tiles_byte rows k = tile_byte rows (k / 16) (k % 16)
