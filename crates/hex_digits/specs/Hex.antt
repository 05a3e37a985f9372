-- Bytes as text: two hexadecimal digits a byte, the high one first. RULES 8.2 and 8.5: a log's digits may be
-- capitals or small letters; what the programs print has capitals.
use Rattle.std.specs.Prelude.{ℕ, ◌+◌, ◌-◌, ◌*◌, ◌/◌, ◌%◌, Bool, true, false, ◌&&◌, cond, List, [], ◌∷◌, ltb}
use Rattle.std.proofs.Math.Option.{Option, none, some}

-- ---- read

-- the value of a digit `0` to `9`, `A` to `F` or `a` to `f`; 16 for any other byte
unfoldable pub nibble : ℕ → ℕ
nibble b =
    cond (ltb b 48) 16
    (cond (ltb b 58) (b - 48)
    (cond (ltb b 65) 16
    (cond (ltb b 71) (b - 55)
    (cond (ltb b 97) 16
    (cond (ltb b 103) (b - 87) 16)))))

-- a byte in front of those that may be there
unfoldable pub before : ℕ → Option (List ℕ) → Option (List ℕ)
before b none = none
before b (some d) = some (b ∷ d)

-- the values of two digits, and the bytes after them
unfoldable pub paired : ℕ → ℕ → Option (List ℕ) → Option (List ℕ)
paired h l rest = cond (ltb h 16 && ltb l 16) (before (h * 16 + l) rest) none

-- the bytes that digits spell; none if some byte is no digit, or one digit is left over
unfoldable pub bytes_of : List ℕ → Option (List ℕ)
bytes_of [] = some []
bytes_of (x ∷ []) = none
bytes_of (x ∷ (y ∷ s)) = paired (nibble x) (nibble y) (bytes_of s)

-- whether they spell any, and which: none where they don't
unfoldable pub present : Option (List ℕ) → Bool
present none = false
present (some d) = true

unfoldable pub or_empty : Option (List ℕ) → List ℕ
or_empty none = []
or_empty (some d) = d

unfoldable pub spells : List ℕ → Bool
spells s = present (bytes_of s)

unfoldable pub spelled : List ℕ → List ℕ
spelled s = or_empty (bytes_of s)

-- ---- written

-- the digit of a value below 16
unfoldable pub capital : ℕ → ℕ
capital d = cond (ltb d 10) (48 + d) (55 + d)

unfoldable pub hex_text : List ℕ → List ℕ
hex_text [] = []
hex_text (b ∷ s) = capital (b / 16) ∷ (capital (b % 16) ∷ hex_text s)
