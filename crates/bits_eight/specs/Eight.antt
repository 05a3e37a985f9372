-- Eight bytes as one number of 64 bits, the first one lowest.
-- RULES 1.5: so half a packet stands in the block, and so eight writes are looked at at once.
use Rattle.std.specs.Prelude.{ℕ, ◌+◌, ◌*◌, List, get_or}

-- the number of the eight bytes from i on
unfoldable pub eight_at : List ℕ → ℕ → ℕ
eight_at l i =
    get_or l i 0 + get_or l (i + 1) 0 * 256 + get_or l (i + 2) 0 * 65536 + get_or l (i + 3) 0 * 16777216 + get_or l (i + 4) 0 * 4294967296
    + get_or l (i + 5) 0 * 1099511627776 + get_or l (i + 6) 0 * 281474976710656 + get_or l (i + 7) 0 * 72057594037927936
