-- A border tile: 8 by 8 colour indices of four bits.
-- RULES 6.2; Pan Docs, Border (CHR_TRN).
use Rattle.std.specs.Prelude.{ℕ, ◌+◌, ◌-◌, ◌*◌, cond, List, [], eqb, leb, length, get_or, take, drop}
use Rattle.parts.specs.Parts.{tiles_bytes}
use Rattle.bits.specs.Bit.{bit_at}

-- the part of the tiles that is tile n; it is empty where there is no such tile, or the tiles have another length (RULES 2.7)
unfoldable pub tile_part : List ℕ → ℕ → List ℕ
tile_part tiles n = cond (eqb (length tiles) tiles_bytes) (cond (leb n 255) (take 32 (drop (n * 32) tiles)) []) []

-- the colour index at a column of a row of a tile's 32 bytes, bit by bit; the leftmost column has bit 7 of each
unfoldable pub index_in : List ℕ → ℕ → ℕ → ℕ
index_in tile row column =
    bit_at (7 - column) (get_or tile (row * 2) 0)
    + bit_at (7 - column) (get_or tile (row * 2 + 1) 0) * 2
    + bit_at (7 - column) (get_or tile (row * 2 + 16) 0) * 4
    + bit_at (7 - column) (get_or tile (row * 2 + 17) 0) * 8
