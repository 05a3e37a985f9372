-- Lines worked out: of a valid block, of another length, and of a block that breaks V3 at byte 8.
use Prim.Native.Nat.{◌+◌, ◌*◌}
use mathlib.Core.Path.{◌≡◌, refl}
use mathlib.Core.List.{[], ◌∷◌}
use Rattle.parts.specs.Parts.{frozen_at}
use Rattle.log_text.specs.Text.{places_from, decimal_text}
use Rattle.check_saved.specs.Verdict.{placed, valid_line, number_line, placed_line, verdict_line}

-- `valid`
of-valid : verdict_line 0 ≡ 118 ∷ 97 ∷ 108 ∷ 105 ∷ 100 ∷ 10 ∷ []
unfolding verdict_line valid_line
of-valid = refl

-- `1`
of_length : verdict_line 1 ≡ 49 ∷ 10 ∷ []
unfolding verdict_line number_line placed decimal_text places_from
of_length = refl

-- `23 at 8`
of_bit-index : verdict_line (23 + 256 * 8) ≡ 50 ∷ 51 ∷ 32 ∷ 97 ∷ 116 ∷ 32 ∷ 56 ∷ 10 ∷ []
unfolding verdict_line placed_line placed decimal_text places_from
of_bit-index = refl

-- `26 at 14180`
of-capture : verdict_line (26 + 256 * frozen_at) ≡ 50 ∷ 54 ∷ 32 ∷ 97 ∷ 116 ∷ 32 ∷ 49 ∷ 52 ∷ 49 ∷ 56 ∷ 48 ∷ 10 ∷ []
unfolding verdict_line placed_line placed decimal_text places_from
of-capture = refl
