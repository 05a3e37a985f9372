-- Worked examples of ATTR_CHR, computed, on a map `m` that holds whatever it held.
use mathlib.Core.Path.{◌≡◌, refl}
use mathlib.Core.List.{List, ◌∷◌}
use Prim.Native.Nat.{ℕ}
use lib.ListN.{replicate}
use Rattle.bits.specs.Pair.{pair_of}
use Rattle.bits.specs.Word.{word, word_at}
use Rattle.attribute_map.specs.Data.{steps}
use Rattle.attribute_cells.specs.Chr.{next, place_of, put_at, pair_of_data, chr_map}
use Rattle.attribute_map.proofs.Painting.{stored}

-- two cells from the map's last one on: the second is off the map
pub chr-one-cell : (m : List (List ℕ)) → chr_map (0x39 ∷ 19 ∷ 17 ∷ 2 ∷ 0 ∷ 0 ∷ 0xF0 ∷ replicate 9 0) m ≡ stored m 19 17 3
unfolding chr_map place_of next put_at pair_of_data pair_of word_at word steps
chr-one-cell m = refl

-- down columns from (3, 16), the pairs 1, 2, 3, 0, 3: the end of column 3, then the start of column 4
pub chr-down : (m : List (List ℕ))
    → chr_map (0x39 ∷ 3 ∷ 16 ∷ 5 ∷ 0 ∷ 1 ∷ 0x6C ∷ 0xC0 ∷ replicate 8 0) m ≡ stored (stored (stored (stored (stored m 3 16 1) 3 17 2) 4 0 3) 4 1 0) 4 2 3
unfolding chr_map place_of next put_at pair_of_data pair_of word_at word steps
chr-down m = refl

-- the same pairs along rows from (18, 2)
pub chr_along : (m : List (List ℕ))
    → chr_map (0x39 ∷ 18 ∷ 2 ∷ 5 ∷ 0 ∷ 0 ∷ 0x6C ∷ 0xC0 ∷ replicate 8 0) m ≡ stored (stored (stored (stored (stored m 18 2 1) 19 2 2) 0 3 3) 1 3 0) 2 3 3
unfolding chr_map place_of next put_at pair_of_data pair_of word_at word steps
chr_along m = refl

-- down columns from (2, 18), which is off the map and uses up the 1: the 2 is the start of column 3
pub chr_off : (m : List (List ℕ)) → chr_map (0x39 ∷ 2 ∷ 18 ∷ 2 ∷ 0 ∷ 1 ∷ 0x6C ∷ replicate 9 0) m ≡ stored m 3 0 2
unfolding chr_map place_of next put_at pair_of_data pair_of word_at word steps
chr_off m = refl
