-- PAL03 and PAL_SET on small numbers, computed.
use mathlib.Core.Path.{◌≡◌, refl}
use mathlib.Core.List.{[], ◌∷◌, ◌++◌}
use lib.ListN.{replicate}
use Rattle.parts.specs.Parts.{palettes_bytes}
use Rattle.bits.specs.Word.{word, word_at}
use Rattle.palettes.specs.Palettes.{shared, pal_pair, system_number, chosen, pal_set}

-- bytes 1 to 14 are the colours, byte 15 is unused; palettes 1 and 2 keep their colours 1 to 3
pub pal03 : pal_pair 0 3 (0x11 ∷ 1 ∷ 2 ∷ 3 ∷ 4 ∷ 5 ∷ 6 ∷ 7 ∷ 8 ∷ 9 ∷ 10 ∷ 11 ∷ 12 ∷ 13 ∷ 14 ∷ 15 ∷ []) (replicate palettes_bytes 99)
    ≡ (1 ∷ 2 ∷ 3 ∷ 4 ∷ 5 ∷ 6 ∷ 7 ∷ 8 ∷ [])
    ++ (1 ∷ 2 ∷ replicate 6 99)
    ++ (1 ∷ 2 ∷ replicate 6 99)
    ++ (1 ∷ 2 ∷ 9 ∷ 10 ∷ 11 ∷ 12 ∷ 13 ∷ 14 ∷ [])
unfolding pal_pair shared
pal03 = refl

-- numbers 511, 0, 513 and 1: nine bits count
pub pal-set : pal_set (0x51 ∷ 0xFF ∷ 1 ∷ 0 ∷ 0 ∷ 1 ∷ 2 ∷ 1 ∷ 0 ∷ replicate 7 0) (replicate 8 10 ++ replicate 8 11 ++ replicate 4072 12 ++ replicate 8 13)
    ≡ replicate 8 13 ++ replicate 8 10 ++ replicate 8 11 ++ replicate 8 11
unfolding pal_set chosen system_number word_at word
pal-set = refl
