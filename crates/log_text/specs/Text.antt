-- The lines that the programs print: a command, a number, a refused line, a row of the picture, each with its LF. RULES 8.5 to 8.8.
use Rattle.std.specs.Prelude.{ℕ, zero, suc, ◌^◌, cond, List, [], ◌∷◌, ◌++◌, ltb}
use Rattle.io.specs.Digits.{last_digits}
use Rattle.bits.specs.Word.{low_byte, high_byte}
use Rattle.hex_digits.specs.Hex.{hex_text}

-- the end of a line
abbrev pub lf : List ℕ
lf = 10 ∷ []

-- bytes in upper-case hexadecimal on a line of their own: a command, and the block's first bytes
unfoldable pub hex_line : List ℕ → List ℕ
hex_line s = hex_text s ++ lf

-- how many digits n has: the least k from `k` on with n below 10 to the k, tried so many times
unfoldable pub places_from : ℕ → ℕ → ℕ → ℕ
places_from zero k n = k
places_from (suc more) k n = cond (ltb n (10 ^ k)) k (places_from more (suc k) n)

-- a number below 2^64 in decimal, which takes at most 20 digits
unfoldable pub decimal_text : ℕ → List ℕ
decimal_text n = last_digits 10 (places_from 19 1 n) n

-- a number on a line of its own, as `1`: a refusal that is told alone
unfoldable pub number_line : ℕ → List ℕ
number_line n = decimal_text n ++ lf

-- `line `, a number's digits, `: 7` and LF
unfoldable pub refusal_of : List ℕ → List ℕ
refusal_of d = (108 ∷ 105 ∷ 110 ∷ 101 ∷ 32 ∷ []) ++ (d ++ (58 ∷ 32 ∷ 55 ∷ lf))

unfoldable pub refusal_text : ℕ → List ℕ
refusal_text n = refusal_of (decimal_text n)

-- a word of sixteen bits as four digits, the high ones first
unfoldable pub word_text : ℕ → List ℕ
word_text w = hex_text (high_byte w ∷ low_byte w ∷ [])

unfoldable pub words_text : List ℕ → List ℕ
words_text [] = []
words_text (w ∷ ws) = word_text w ++ words_text ws

-- words with nothing between, on a line of their own: a row of the picture
unfoldable pub row_line : List ℕ → List ℕ
row_line ws = words_text ws ++ lf
