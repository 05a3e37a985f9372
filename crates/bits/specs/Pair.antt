-- Four numbers of two bits in a byte, the first in the high pair: shades of a screen and palette numbers of an attribute map.
-- RULES 1.1. Pan Docs, Attributes, has the cells of a map so.
use Rattle.std.specs.Prelude.{ℕ, ◌+◌, ◌-◌, ◌*◌, ◌/◌, ◌%◌, ◌^◌}

-- pair j of a packed byte
unfoldable pub pair_of : ℕ → ℕ → ℕ
pair_of x j = x / 4 ^ (3 - j) % 4

-- the byte whose pairs are f 0, f 1, f 2, f 3
unfoldable pub packed : (ℕ → ℕ) → ℕ
packed f = f 0 * 64 + f 1 * 16 + f 2 * 4 + f 3
