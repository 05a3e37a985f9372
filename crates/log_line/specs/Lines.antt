-- The lines of an input, each ended by LF but perhaps the last (RULES 8.1). And the same with lines
-- that are longer than any that means something only marked as such, which is what bounded memory can hold.
use Rattle.std.specs.Prelude.{ℕ, cond, List, [], ◌∷◌, ◌++◌, length, leb, eqb}
use Rattle.std.proofs.Math.Option.{Option, none, some}
use Rattle.log_line.specs.Line.{line_digits, Meaning, refused, meaning_of}

-- what is left as the input ends: a line if it is not empty
unfoldable pub last_line : List ℕ → List (List ℕ)
last_line [] = []
last_line (x ∷ p) = (x ∷ p) ∷ []

-- the lines of an input that comes after the beginning p of a line
unfoldable pub lines_from : List ℕ → List ℕ → List (List ℕ)
lines_from p [] = last_line p
lines_from p (b ∷ s) = cond (eqb b 10) (p ∷ lines_from [] s) (lines_from (p ++ (b ∷ [])) s)

-- the lines of an input
unfoldable pub lines_of : List ℕ → List (List ℕ)
lines_of s = lines_from [] s

-- a line, or that it is longer than any that means something
unfoldable pub mark : List ℕ → Option (List ℕ)
mark p = cond (leb (length p) line_digits) (some p) none

-- a held line with more bytes of it
unfoldable pub grown : Option (List ℕ) → List ℕ → Option (List ℕ)
grown none q = none
grown (some p) q = mark (p ++ q)

unfoldable pub last_marked : Option (List ℕ) → List (Option (List ℕ))
last_marked none = none ∷ []
last_marked (some []) = []
last_marked (some (x ∷ p)) = some (x ∷ p) ∷ []

-- the marked lines of an input that comes after a held line
unfoldable pub marked_from : Option (List ℕ) → List ℕ → List (Option (List ℕ))
marked_from h [] = last_marked h
marked_from h (b ∷ s) = cond (eqb b 10) (h ∷ marked_from (some []) s) (marked_from (grown h (b ∷ [])) s)

-- what a marked line means: one that is too long is refused
unfoldable pub meaning_marked : Option (List ℕ) → Meaning
meaning_marked none = refused
meaning_marked (some p) = meaning_of p
