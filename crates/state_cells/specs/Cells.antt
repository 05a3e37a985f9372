-- Palette numbers and shades a byte each, as a state of the emulator has them (RULES 11.2), and packed four to a byte, as the block has them.
use Rattle.std.specs.Prelude.{ℕ, ◌+◌, ◌*◌, ◌/◌, ◌%◌, Bool, true, ◌&&◌, List, [], ◌∷◌, leb, get_or}
use Rattle.bits.specs.Pair.{pair_of, packed}
use Rattle.bits.specs.Tab.{tab}

-- n packed bytes, each of the next four; of each the low two bits are kept
unfoldable pub pack_cells : ℕ → List ℕ → List ℕ
pack_cells n l = tab n (λ i. packed (λ j. get_or l (4 * i + j) 0 % 4))

-- n packed bytes a byte each: number k is pair k % 4 of byte k / 4
unfoldable pub unpack_cells : ℕ → List ℕ → List ℕ
unpack_cells n b = tab (4 * n) (λ k. pair_of (get_or b (k / 4) 0) (k % 4))

-- nothing but palette numbers
unfoldable pub palette_numbers : List ℕ → Bool
palette_numbers [] = true
palette_numbers (x ∷ xs) = leb x 3 && palette_numbers xs

-- the low two bits of each
unfoldable pub low_pairs : List ℕ → List ℕ
low_pairs [] = []
low_pairs (x ∷ xs) = x % 4 ∷ low_pairs xs
