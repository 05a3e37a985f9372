-- What `check` prints of a saved block: one line, `valid`, or the refusal that the block calls for. RULES 8.7.
use Rattle.std.specs.Prelude.{ℕ, ◌/◌, ◌%◌, Bool, cond, ◌&&◌, List, [], ◌∷◌, ◌++◌, eqb, leb}
use Rattle.view.specs.Refusal.{refusal_of}
use Rattle.log_text.specs.Text.{lf, decimal_text}
unfoldable pub use Rattle.log_text.specs.Text.{number_line}

-- a refusal is one number: its own in the low byte, and above it the offset of the byte that breaks a rule
abbrev pub number_in : ℕ → ℕ
number_in n = n % 256

abbrev pub offset_in : ℕ → ℕ
offset_in n = n / 256

-- those that name a rule come with an offset: 21 for V1 to 26 for V6
unfoldable pub placed : ℕ → Bool
placed number = leb 21 number && leb number 26

-- `valid`
unfoldable pub valid_line : List ℕ
valid_line = 118 ∷ 97 ∷ 108 ∷ 105 ∷ 100 ∷ lf

-- as `23 at 8`
unfoldable pub placed_line : ℕ → ℕ → List ℕ
placed_line number offset = decimal_text number ++ ((32 ∷ 97 ∷ 116 ∷ 32 ∷ []) ++ (decimal_text offset ++ lf))

-- the line of a refusal, or of 0, which is none
unfoldable pub verdict_line : ℕ → List ℕ
verdict_line n = cond (eqb n 0) valid_line (cond (placed (number_in n)) (placed_line (number_in n) (offset_in n)) (number_line (number_in n)))

unfoldable pub check_text : List ℕ → List ℕ
check_text input = verdict_line (refusal_of input)
