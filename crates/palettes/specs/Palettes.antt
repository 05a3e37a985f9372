-- The palette commands on the 32 bytes of the four palettes: four words each, little-endian (RULES 4.3 and 4.4; Pan Docs,
-- Palettes). That the preset ends is said where the preset stands.
use Rattle.std.specs.Prelude.{List, ◌++◌, ℕ, ◌+◌, ◌*◌, ◌%◌}
use Rattle.bits.specs.Over.{part, over}
use Rattle.bits.specs.Word.{word_at}

-- the bytes of one palette
abbrev pub palette_bytes : ℕ
palette_bytes = 8

-- word d1 as colour 0 of palette p
abbrev pub first_colour : ℕ → List ℕ → List ℕ → List ℕ
first_colour p d pals = over (palette_bytes * p) 2 (part 1 2 d) pals

-- the three words of d from byte `from` on as colours 1 to 3 of palette p
abbrev pub other_colours : ℕ → ℕ → List ℕ → List ℕ → List ℕ
other_colours p from d pals = over (palette_bytes * p + 2) 6 (part from 6 d) pals

-- word d1 as colour 0 of all four
unfoldable pub shared : List ℕ → List ℕ → List ℕ
shared d pals = first_colour 3 d (first_colour 2 d (first_colour 1 d (first_colour 0 d pals)))

-- PAL01, PAL23, PAL03, PAL12, for palettes a and b: colour 0 is shared, the next three words are a's other colours, the last three b's
unfoldable pub pal_pair : ℕ → ℕ → List ℕ → List ℕ → List ℕ
pal_pair a b d pals = other_colours b 9 d (other_colours a 3 d (shared d pals))

-- PAL_SET: the system palette for palette i, the low nine bits of the word at d[1 + 2 i]
unfoldable pub system_number : List ℕ → ℕ → ℕ
system_number d i = word_at d (1 + 2 * i) % 512

unfoldable pub chosen : List ℕ → List ℕ → ℕ → List ℕ
chosen d system i = part (palette_bytes * system_number d i) palette_bytes system

unfoldable pub pal_set : List ℕ → List ℕ → List ℕ
pal_set d system = chosen d system 0 ++ chosen d system 1 ++ chosen d system 2 ++ chosen d system 3
