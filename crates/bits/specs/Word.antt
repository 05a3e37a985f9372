-- A word of sixteen bits as two bytes, the low one first.
-- RULES 1.1. Pan Docs, Palettes, has a colour so.
use Rattle.std.specs.Prelude.{ℕ, ◌+◌, ◌*◌, ◌/◌, ◌%◌, List, get_or}

unfoldable pub word : ℕ → ℕ → ℕ
word low high = low + high * 256

unfoldable pub low_byte : ℕ → ℕ
low_byte w = w % 256

unfoldable pub high_byte : ℕ → ℕ
high_byte w = w / 256

-- the word whose low byte stands at i
unfoldable pub word_at : List ℕ → ℕ → ℕ
word_at l i = word (get_or l i 0) (get_or l (i + 1) 0)
