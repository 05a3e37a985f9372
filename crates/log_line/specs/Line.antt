-- What a line of a log means: writes, a screen, or nothing, and then it is refused. RULES 8.2.
use Rattle.std.specs.Prelude.{ℕ, ◌+◌, ◌*◌, cond, List, [], ◌∷◌, leb, eqb, length}
use Rattle.std.proofs.Math.Option.{Option, none, some}
use Rattle.parts.specs.Parts.{capture_bytes}
use Rattle.hex_digits.specs.Hex.{bytes_of}

-- the digits of the longest line that means something: a line has at most as many writes as a screen has bytes
abbrev pub line_digits : ℕ
line_digits = 2 * (1 + capture_bytes)

pub data Meaning : Type 0 where
  writes : List ℕ → Meaning
  screen : List ℕ → Meaning
  refused : Meaning

-- what bytes mean, by the first
unfoldable pub by_kind : List ℕ → Meaning
by_kind [] = refused
by_kind (k ∷ d) =
    cond (eqb k 1) (cond (leb (length d) capture_bytes) (writes d) refused)
    (cond (eqb k 2) (cond (eqb (length d) capture_bytes) (screen d) refused) refused)

unfoldable pub by_bytes : Option (List ℕ) → Meaning
by_bytes none = refused
by_bytes (some b) = by_kind b

-- what a line means
unfoldable pub meaning_of : List ℕ → Meaning
meaning_of s = by_bytes (bytes_of s)
