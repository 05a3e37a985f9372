-- What a log does, before any text is made of it: the commands that its writes complete and the lines that are refused, in log order, and
-- the unit at its end, from `post_boot` on. RULES 8.4. A refused line is told by its number and does nothing else. What a write and a screen
-- do are the rules (crate `rules`).
use Rattle.std.specs.Prelude.{ℕ, suc, true, List, [], ◌∷◌, ◌++◌, map}
use Rattle.std.proofs.Math.Option.{Option, none, some}
use Rattle.layout.specs.Fresh.{fresh}
use Rattle.layout.specs.Sgb.{Sgb}
use Rattle.rules.specs.Write.{written, answer}
use Rattle.rules.specs.Screen.{screened}
use Rattle.log_line.specs.Line.{Meaning, writes, screen, refused, meaning_of}
use Rattle.log_line.specs.Lines.{lines_of}

pub data Event : Type 0 where
  completed : List ℕ → Event
  refusal : ℕ → Event

-- ---- a line

-- the commands that writes complete, and the unit after them
unfoldable pub answer_events : Option (List ℕ) → List Event
answer_events none = []
answer_events (some c) = completed c ∷ []

unfoldable pub write_events : Sgb → List ℕ → List Event
write_events u [] = []
write_events u (v ∷ vs) = answer_events (answer u v) ++ write_events (written u v) vs

unfoldable pub after_writes : Sgb → List ℕ → Sgb
after_writes u [] = u
after_writes u (v ∷ vs) = after_writes (written u v) vs

-- line k
unfoldable pub line_events : Sgb → ℕ → Meaning → List Event
line_events u k (writes ws) = write_events u ws
line_events u k (screen x) = []
line_events u k refused = refusal k ∷ []

unfoldable pub after_line : Sgb → Meaning → Sgb
after_line u (writes ws) = after_writes u ws
after_line u (screen x) = screened u x
after_line u refused = u

-- ---- lines, of which the first has the number k

unfoldable pub events_from : Sgb → ℕ → List Meaning → List Event
events_from u k [] = []
events_from u k (m ∷ ms) = line_events u k m ++ events_from (after_line u m) (suc k) ms

unfoldable pub after_lines : Sgb → List Meaning → Sgb
after_lines u [] = u
after_lines u (m ∷ ms) = after_lines (after_line u m) ms

-- ---- a log, by its bytes

unfoldable pub meanings : List ℕ → List Meaning
meanings input = map meaning_of (lines_of input)

unfoldable pub events_of : List ℕ → List Event
events_of input = events_from (fresh true) 1 (meanings input)

unfoldable pub unit_after : List ℕ → Sgb
unit_after input = after_lines (fresh true) (meanings input)
