-- The 45 attribute files, 90 packed bytes each, and the map after one is asked for (RULES 4.4 and 4.9; Pan Docs, Attributes).
use Rattle.std.specs.Prelude.{ℕ, ◌*◌, ◌%◌, cond, List, nat_lt}
use Rattle.parts.specs.Parts.{map_bytes}
use Rattle.bits.specs.Bit.{bit_of}
use Rattle.bits.specs.Over.{part}

abbrev pub file_count : ℕ
file_count = 45

-- file n, or the map as it is where there is no such file
unfoldable pub file_of : ℕ → List ℕ → List ℕ → List ℕ
file_of n files map = cond (nat_lt n file_count) (part (map_bytes * n) map_bytes files) map

-- ATTR_SET by d1: the file is its low six bits
unfoldable pub attr_set_map : ℕ → List ℕ → List ℕ → List ℕ
attr_set_map flags files map = file_of (flags % 64) files map

-- PAL_SET by d9: the same if bit 7 is set
unfoldable pub pal_set_map : ℕ → List ℕ → List ℕ → List ℕ
pal_set_map flags files map = cond (bit_of 7 flags) (attr_set_map flags files map) map
