-- The fields of a border map word.
-- RULES 6.1; Pan Docs, Border.
use Rattle.std.specs.Prelude.{ℕ, ◌/◌, ◌%◌, Bool}
use Rattle.bits.specs.Bit.{bit_of}

unfoldable pub tile_of : ℕ → ℕ
tile_of w = w % 1024

unfoldable pub palette_of : ℕ → ℕ
palette_of w = w / 1024 % 8

unfoldable pub flip_x : ℕ → Bool
flip_x w = bit_of 14 w

unfoldable pub flip_y : ℕ → Bool
flip_y w = bit_of 15 w
