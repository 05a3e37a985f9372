-- The verdict worked: what each number of packets holds, and commands just at it and just past it (RULES 7.2 and 10.2).
use mathlib.Core.Path.{◌≡◌, refl}
use mathlib.Core.Bool.{Bool, true, false}
use mathlib.Core.List.{[], ◌∷◌, ◌++◌, map}
use Prim.Native.Nat.{ℕ}
use Rattle.bits.specs.Word.{word, word_at, low_byte, high_byte}
use Rattle.receiver.specs.Count.{code_of, count_of}
use Rattle.pulses.specs.Answer.{Answer, given}
use Rattle.pulses.specs.Bytes.{packets_in, malformed}
use Rattle.pulses.specs.Fewest.{fewest, announcing, bare}
use Rattle.pulses.specs.Verdict.{attr_blk, attr_lin, attr_chr, announces, announced, most_items, bytes_for, brings, most_packets, conforms_by, conforms, judged}

-- the most items that 1, 2, .. packets hold, and one more each time but the last
pub sets_in-packets :
    map (fewest attr_blk) (2 ∷ 3 ∷ 5 ∷ 6 ∷ 7 ∷ 8 ∷ 10 ∷ 11 ∷ 13 ∷ 14 ∷ 15 ∷ 16 ∷ 18 ∷ [])
    ≡ (1 ∷ 2 ∷ 2 ∷ 3 ∷ 3 ∷ 4 ∷ 4 ∷ 5 ∷ 5 ∷ 6 ∷ 6 ∷ 7 ∷ 7 ∷ [])
unfolding fewest bytes_for
sets_in-packets = refl

pub lines_in-packets :
    map (fewest attr_lin) (14 ∷ 15 ∷ 30 ∷ 31 ∷ 46 ∷ 47 ∷ 62 ∷ 63 ∷ 78 ∷ 79 ∷ 94 ∷ 95 ∷ 110 ∷ [])
    ≡ (1 ∷ 2 ∷ 2 ∷ 3 ∷ 3 ∷ 4 ∷ 4 ∷ 5 ∷ 5 ∷ 6 ∷ 6 ∷ 7 ∷ 7 ∷ [])
unfolding fewest bytes_for
lines_in-packets = refl

pub cells_in-packets :
    map (fewest attr_chr) (40 ∷ 41 ∷ 104 ∷ 105 ∷ 168 ∷ 169 ∷ 232 ∷ 233 ∷ 296 ∷ 297 ∷ 360 ∷ [])
    ≡ (1 ∷ 2 ∷ 2 ∷ 3 ∷ 3 ∷ 4 ∷ 4 ∷ 5 ∷ 5 ∷ 6 ∷ 6 ∷ [])
unfolding fewest bytes_for
cells_in-packets = refl

-- n announced in p packets, all other bytes zero
abbrev told : ℕ → ℕ → ℕ → Answer Bool
told code p n = judged (bare code p n)

pub eighteen_sets : (told attr_blk 1 18 ≡ given false) × (told attr_blk 7 18 ≡ given true)
unfolding bare announcing low_byte high_byte word word_at code_of count_of packets_in malformed announces announced most_items bytes_for brings most_packets conforms_by conforms judged
eighteen_sets = (refl, refl)

-- just at what the packets hold, and just past it; none at all; and cells in seven packets
pub at-and_past :
    (told attr_blk 1 2 ∷ told attr_blk 1 3 ∷ told attr_blk 5 13 ∷ told attr_blk 5 14 ∷ told attr_blk 7 19 ∷ told attr_blk 1 0 ∷ [])
    ++ (told attr_lin 1 14 ∷ told attr_lin 1 15 ∷ told attr_lin 7 110 ∷ told attr_lin 7 111 ∷ [])
    ++ (told attr_chr 1 40 ∷ told attr_chr 1 41 ∷ told attr_chr 6 360 ∷ told attr_chr 6 361 ∷ told attr_chr 7 360 ∷ [])
    ≡ map given
    (true ∷ false ∷ true ∷ false ∷ false ∷ false ∷ true ∷ false ∷ true ∷ false ∷ true ∷ false ∷ true ∷ false ∷ false ∷ [])
unfolding bare announcing low_byte high_byte word word_at code_of count_of packets_in malformed announces announced most_items bytes_for brings most_packets conforms_by conforms judged
at-and_past = refl
