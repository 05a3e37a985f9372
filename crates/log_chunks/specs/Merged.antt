-- A log by its bytes as the writes and screens of demand 3 (`Log` of the crate `order`), in order: a line's writes, or its screen. How they are
-- cut into lines is of no account, and a refused line has none. And what of a log may differ where only its merging does: its refused lines.
use Rattle.std.specs.Prelude.{ℕ, suc, List, [], ◌∷◌, ◌++◌, map}
use Rattle.std.proofs.Math.Option.{Option, none, some}
use Rattle.layout.specs.Block.{save}
use Rattle.order.specs.Log as order
use Rattle.log_line.specs.Line.{Meaning, writes, screen, refused}
use Rattle.log_chunks.specs.Events.{Event, completed, refusal, meanings, events_of, unit_after}
use Rattle.log_chunks.specs.Texts.{shown, head_line}

unfoldable pub line_acts : Meaning → List order.Act
line_acts (writes ws) = map order.write ws
line_acts (screen x) = order.screen x ∷ []
line_acts refused = []

unfoldable pub acts_in : List Meaning → List order.Act
acts_in [] = []
acts_in (m ∷ ms) = line_acts m ++ acts_in ms

-- the writes and screens of an input
unfoldable pub acts_of : List ℕ → List order.Act
acts_of input = acts_in (meanings input)

-- ---- refused lines

-- the number of the first of some lines that is refused, of which the first has the number k
unfoldable pub refused_from : ℕ → List Meaning → Option ℕ
refused_from k [] = none
refused_from k (writes ws ∷ ms) = refused_from (suc k) ms
refused_from k (screen x ∷ ms) = refused_from (suc k) ms
refused_from k (refused ∷ ms) = some k

-- the first refused line of an input
unfoldable pub refused_line : List ℕ → Option ℕ
refused_line input = refused_from 1 (meanings input)

-- the commands among what a log tells
unfoldable pub commands_of : List Event → List (List ℕ)
commands_of [] = []
commands_of (completed c ∷ es) = c ∷ commands_of es
commands_of (refusal k ∷ es) = commands_of es

-- what `replay` prints, but for its refusals
unfoldable pub unrefused_text : List ℕ → List ℕ
unrefused_text input = shown (map completed (commands_of (events_of input))) ++ head_line (save (unit_after input))
