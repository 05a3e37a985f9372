-- The texts of RULES 8.5: what `replay` prints for `01003020`, and the first line's refusal.
use mathlib.Core.Path.{◌≡◌, refl}
use mathlib.Core.List.{[], ◌∷◌}
use Rattle.bits.specs.Word.{low_byte, high_byte}
use Rattle.hex_digits.specs.Hex.{capital, hex_text}
use Rattle.log_text.specs.Text.{hex_line, places_from, decimal_text, refusal_of, refusal_text, word_text, words_text, row_line}

-- `00000001000100000101000000`
head-line : hex_line (0 ∷ 0 ∷ 0 ∷ 1 ∷ 0 ∷ 1 ∷ 0 ∷ 0 ∷ 1 ∷ 1 ∷ 0 ∷ 0 ∷ 0 ∷ [])
    ≡ 48 ∷ 48 ∷ 48 ∷ 48 ∷ 48 ∷ 48 ∷ 48 ∷ 49 ∷ 48 ∷ 48 ∷ 48 ∷ 49 ∷ 48 ∷ 48 ∷ 48 ∷ 48 ∷ 48 ∷ 49 ∷ 48 ∷ 49 ∷ 48 ∷ 48 ∷ 48 ∷ 48 ∷ 48 ∷ 48 ∷ 10 ∷ []
unfolding hex_line hex_text capital
head-line = refl

-- `line 1: 7`
first-refused : refusal_text 1 ≡ 108 ∷ 105 ∷ 110 ∷ 101 ∷ 32 ∷ 49 ∷ 58 ∷ 32 ∷ 55 ∷ 10 ∷ []
unfolding refusal_text refusal_of decimal_text places_from
first-refused = refl

-- `line 10: 7`
tenth-refused : refusal_text 10 ≡ 108 ∷ 105 ∷ 110 ∷ 101 ∷ 32 ∷ 49 ∷ 48 ∷ 58 ∷ 32 ∷ 55 ∷ 10 ∷ []
unfolding refusal_text refusal_of decimal_text places_from
tenth-refused = refl

-- `67BF0000`
two-words : row_line (0x67BF ∷ 0 ∷ []) ≡ 54 ∷ 55 ∷ 66 ∷ 70 ∷ 48 ∷ 48 ∷ 48 ∷ 48 ∷ 10 ∷ []
unfolding row_line words_text word_text hex_text capital low_byte high_byte
two-words = refl
