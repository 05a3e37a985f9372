-- The definition tried on rows of RULES 1.15. A list that is cut off behind its last byte that matters has nothing behind it that could be
-- wrong; the program `test_edges` has whole blocks, and V5.
use mathlib.Core.Path.{◌≡◌, refl}
use mathlib.Core.List.{List, [], ◌∷◌, ◌++◌}
use mathlib.Core.Option.{Option, none, some}
use Prim.Native.Nat.{ℕ}
use lib.ListN.{replicate}
use Rattle.broken.specs.Broken.{Broken, asks1, asks2, asks3, asks4, asks5, asks6, asks_of, resting, coming, first, between, later, zero_from, clear_from, byte_of, lower, lowest, broken_or, first_of, broken}
use Rattle.layout.specs.Block.{stage_of}
use Rattle.layout.specs.Valid.{mask_allows}
use Rattle.receiver.specs.Count.{count_of, code_of}

abbrev At : ℕ → ℕ → List ℕ → Type 0
At rule at b = broken b ≡ some (record { rule = rule; at = at })

-- V1: the mask mode over 3; the index outside the mask, also where the mask is over 3; the mask over 3
pub of-v1 : At 1 0 (4 ∷ 8 ∷ 4 ∷ []) × (At 1 1 (0 ∷ 2 ∷ 1 ∷ []) × (At 1 1 (0 ∷ 8 ∷ 4 ∷ []) × At 1 2 (0 ∷ 4 ∷ 4 ∷ [])))
unfolding broken first_of broken_or asks1 lowest lower byte_of
of-v1 = (refl, (refl, (refl, refl)))

-- V2: a flag over 1; both lines high and P15 not, which is told at the lower byte; a spare byte
pub of-v2 : At 2 3 (0 ∷ 0 ∷ 0 ∷ 2 ∷ 2 ∷ []) × (At 2 4 (0 ∷ 0 ∷ 0 ∷ 0 ∷ 2 ∷ []) × (At 2 3 (0 ∷ 0 ∷ 0 ∷ 0 ∷ 1 ∷ []) × At 2 15 (replicate 15 0 ++ (9 ∷ []))))
unfolding broken first_of broken_or asks1 asks2 zero_from lowest lower byte_of
of-v2 = (refl, (refl, (refl, refl)))

-- V3, bytes 5 to 8 and the packet: no such stage; idle; receiving with 129 bits, and with bit 12 of 12; awaiting with nothing due, with
-- nothing in
abbrev port : List ℕ → List ℕ
port l = 0 ∷ 0 ∷ 0 ∷ 0 ∷ 0 ∷ l

pub of-v3 : At 3 5 (port (3 ∷ 1 ∷ [])) × (At 3 7 (port (0 ∷ 0 ∷ 1 ∷ 1 ∷ [])) × (At 3 8 (port (1 ∷ 0 ∷ 0 ∷ 129 ∷ []))
    × (At 3 17 (port (1 ∷ 0 ∷ 0 ∷ 12 ∷ replicate 7 0) ++ (255 ∷ 16 ∷ 1 ∷ [])) × (At 3 6 (port (2 ∷ 0 ∷ 0 ∷ []))
    × At 3 7 (port (2 ∷ 1 ∷ 0 ∷ replicate 24 0) ++ (1 ∷ []))))))
unfolding broken first_of broken_or asks1 asks2 asks3 asks_of resting coming first between later stage_of count_of code_of zero_from clear_from lowest lower byte_of
of-v3 = (refl, (refl, (refl, (refl, (refl, refl)))))

-- V4: the countdown over 3, whatever the kind; a kind with no countdown. V6: a freeze without a capture
pub of_the_others : At 4 10 (replicate 10 0 ++ (4 ∷ 9 ∷ [])) × (At 4 11 (replicate 11 0 ++ (1 ∷ [])) × At 6 0 (1 ∷ []))
unfolding broken first_of broken_or asks1 asks2 asks3 asks4 asks5 asks6 asks_of resting mask_allows stage_of zero_from lowest lower byte_of
of_the_others = (refl, (refl, refl))
