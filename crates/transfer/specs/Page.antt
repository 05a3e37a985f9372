-- The page that a screen shows, plane byte by plane byte and pixel by pixel.
-- RULES 5.3; Pan Docs, VRAM transfers.
use Rattle.std.specs.Prelude.{ℕ, ◌+◌, ◌*◌, ◌/◌, ◌%◌, List}
use Rattle.bits.specs.Bit.{bit_at}
use Rattle.bits.specs.Plane.{byte_of}
use Rattle.bits.specs.Tab.{tab}
use Rattle.screen.specs.Packed.{shade_at}

-- plane p (0 low, 1 high) of row r of tile t
unfoldable pub plane_byte : List ℕ → ℕ → ℕ → ℕ → ℕ
plane_byte screen t r p = byte_of (λ j. bit_at p (shade_at screen (t % 20 * 8 + j) (t / 20 * 8 + r)))

-- 256 tiles of sixteen bytes, two a row
abbrev pub page_bytes : ℕ
page_bytes = 256 * 16

unfoldable pub page_of : List ℕ → List ℕ
page_of screen = tab page_bytes (λ k. plane_byte screen (k / 16) (k % 16 / 2) (k % 2))
