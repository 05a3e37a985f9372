-- What `parse` answers and leaves, for every text and buffer. RULES 8.3: refusal 6 where the buffer has no room for the
-- longest line, then 7 for what is no line of a log. A refusal leaves the buffer as it was, and what is longer than the line keeps its tail.
use Rattle.std.specs.Prelude.{ℕ, cond, List, leb, length, Option, Some, None, Result, Ok, Err}
use Rattle.bits.specs.Answer.{Answer, given}
use Rattle.bits.specs.Answer.{refused as refusal}
use Rattle.bits.specs.Over.{over}
use Rattle.parts.specs.Parts.{capture_bytes}
use Rattle.log_line.specs.Line.{Meaning, writes, screen, refused, meaning_of}
use Rattle.log_line.specs.declared.Line.{Line}
use Rattle.log_line.specs.declared.Line.TheVariants as L
use Rattle.log_line.specs.declared.Kind.{Kind}
use Rattle.log_line.specs.declared.Kind.TheVariants as K
use Rattle.refusal.specs.declared.Refusal.{Refusal}
use Rattle.refusal.specs.Codes.{code_of}

-- what a line that is taken has: so many writes, or a screen
pub data Content : Type 0 where
  writes_of : ℕ → Content
  one_screen : Content

-- the answer's number, or what is given
unfoldable pub line_told : Result Line Refusal → Answer Content
line_told (Err r) = refusal (code_of r)
line_told (Ok (L.Writes n)) = given (writes_of n)
line_told (Ok L.Screen) = given one_screen

unfoldable pub meaning_told : Meaning → Answer Content
meaning_told (writes ws) = given (writes_of (length ws))
meaning_told (screen d) = given one_screen
meaning_told refused = refusal 7

-- what a line's first byte says if it is taken
unfoldable pub kind_told : Meaning → Option Kind
kind_told (writes ws) = Some K.Writes
kind_told (screen d) = Some K.Screen
kind_told refused = None

-- a buffer with a line's writes or its screen at the front
unfoldable pub filled : Meaning → List ℕ → List ℕ
filled (writes ws) bytes = over 0 (length ws) ws bytes
filled (screen d) bytes = over 0 (length d) d bytes
filled refused bytes = bytes

unfoldable pub line_answer : List ℕ → List ℕ → Answer Content
line_answer text bytes = cond (leb capture_bytes (length bytes)) (meaning_told (meaning_of text)) (refusal 6)

unfoldable pub line_bytes : List ℕ → List ℕ → List ℕ
line_bytes text bytes = cond (leb capture_bytes (length bytes)) (filled (meaning_of text) bytes) bytes
