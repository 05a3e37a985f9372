-- Eight pixels of a row as two plane bytes, and back.
-- RULES 5.3 and 5.6. Pan Docs, VRAM transfers: the same of a tile's two bytes a row.
use Rattle.std.specs.Prelude.{ℕ, ◌+◌, ◌-◌, ◌*◌, ◌%◌, cond, ltb}
use Rattle.bits.specs.Bit.{bit_at}
use Rattle.bits.specs.Pair.{pair_of, packed}

-- a byte of one bit for each of eight pixels, the leftmost in bit 7
unfoldable pub byte_of : (ℕ → ℕ) → ℕ
byte_of f = f 0 * 128 + f 1 * 64 + f 2 * 32 + f 3 * 16 + f 4 * 8 + f 5 * 4 + f 6 * 2 + f 7

-- shade j of the eight that two bytes pack
unfoldable pub shade_of : ℕ → ℕ → ℕ → ℕ
shade_of a b j = pair_of (cond (ltb j 4) a b) (j % 4)

-- plane p of those eight pixels: 0 has the low bit of each shade, 1 the high bit
unfoldable pub plane_of : ℕ → ℕ → ℕ → ℕ
plane_of p a b = byte_of (λ j. bit_at p (shade_of a b j))

-- plane p of the four pixels that one byte packs, as a number of four bits: half a plane byte
unfoldable pub nibble_of : ℕ → ℕ → ℕ
nibble_of p x = bit_at p (pair_of x 0) * 8 + bit_at p (pair_of x 1) * 4 + bit_at p (pair_of x 2) * 2 + bit_at p (pair_of x 3)

-- ---- back

-- the shade of pixel j of the eight whose plane bytes these are: its bit of the low plane, and above it its bit of the high plane
unfoldable pub shade_by : ℕ → ℕ → ℕ → ℕ
shade_by low high j = bit_at (7 - j) low + 2 * bit_at (7 - j) high

-- the byte that packs four of them, the left ones (0) or the right ones (1)
unfoldable pub four_of : ℕ → ℕ → ℕ → ℕ
four_of half low high = packed (λ j. shade_by low high (4 * half + j))

-- the low four bits of a number, each in the low bit of its pair
unfoldable pub spread_of : ℕ → ℕ
spread_of x = packed (λ j. bit_at (3 - j) x)
