-- Serves the loops that read a log; nobody need believe it: that steps tell just what a log tells (`Events`), and print its text (`Texts`),
-- however it is cut into chunks, is proofs/Prints, `replay-prints` and `plate-prints`. A reading's steps, with every byte that is lent: a
-- step plays the decoded writes up to the next command, or takes the chunk up to the next line's end; a fill is steps, one after the
-- other, while there is more and room for their text.
use Rattle.std.specs.Prelude.{ℕ, zero, suc, ◌+◌, ◌-◌, ◌*◌, ◌≤◌, ◌<◌, Bool, true, false, cond, not, ◌&&◌, List, [], ◌∷◌, ◌++◌, map, ◌≡◌, ltb, leb, length, take, drop, Option, Some, None}
use Rattle.bits.specs.Over.{over}
use Rattle.layout.specs.Block.{load, save}
use Rattle.parts.specs.Parts.{capture_bytes, store_bytes}
use Rattle.layout.specs.Sgb.{Sgb}
use Rattle.layout.specs.Valid.{Valid}
use Rattle.rules.specs.Screen.{screened}
use Rattle.block_port.specs.Bytes.{handed, packets_some}
use Rattle.block_writes.specs.Play.{Played, played}
use Rattle.log_line.specs.Line.{line_digits, Meaning, writes, screen, refused}
use Rattle.log_line.specs.Lines.{marked_from, meaning_marked}
use Rattle.log_line.specs.Split.{held_as, held_size, nothing, taken, took_line, up_to_lf}
use Rattle.log_line.specs.Calls.{filled}
use Rattle.log_line.specs.declared.lines.Held.{Held}
use Rattle.log_chunks.specs.Events.{Event, completed, refusal, write_events, after_writes, events_from, after_lines}
use Rattle.log_chunks.specs.Texts.{shown}
use Rattle.log_reading.specs.declared.Reading.{Reading}
pub use Rattle.log_reading.specs.Point.{begun}
unfoldable pub use Rattle.log_reading.specs.Point.{left, last_lf}
use Rattle.log_chunks.specs.declared.Desk as lent
use Rattle.log_chunks.specs.declared.Filled.{Filled}
use Rattle.log_chunks.specs.declared.Step.{Step}
use Rattle.log_chunks.specs.declared.Told.{Told}
use Rattle.log_chunks.specs.declared.Told.TheVariants.{Nothing, Command, Refused}

-- the lent buffers: the unit, the line that is held, the decoded writes or screen, the last command
pub record Desk : Type 0 where
  pub block : List ℕ
  pub line : List ℕ
  pub bytes : List ℕ
  pub command : List ℕ

-- those that the code lends, the command's of whatever length
abbrev pub desk_of : {n : ℕ} → lent.Desk n → Desk
desk_of d = record { block = d.block; line = d.line; bytes = d.bytes; command = d.command }

abbrev pub desk : List ℕ → List ℕ → List ℕ → List ℕ → Desk
desk b l y c = record { block = b; line = l; bytes = y; command = c }

-- the writes that are still to be played
unfoldable pub pending : Reading → List ℕ → List ℕ
pending r bytes = take (r.upto - r.from) (drop r.from bytes)

-- ---- a step

pub record Stepped : Type 0 where
  pub reading : Reading
  pub at : ℕ
  pub told : Told
  pub desk : Desk

-- what the code answers of a step
abbrev pub answer_of : Stepped → Step
answer_of s = record { reading = s.reading; at = s.at; told = s.told }

unfoldable pub told_of : Option ℕ → Told
told_of None = Nothing
told_of (Some n) = Command n

unfoldable pub played_to : Reading → Desk → ℕ → Played → Stepped
played_to r d at p = record {
  reading = record { held = r.held; number = r.number; from = r.from + p.at; upto = r.upto };
  at = at;
  told = told_of (packets_some p.told);
  desk = record { block = save p.unit; line = d.line; bytes = d.bytes; command = handed p.told d.command };
}

-- the decoded writes, up to the next command
unfoldable pub ran_on : Reading → Desk → ℕ → Stepped
ran_on r d at = played_to r d at (played (load d.block) (pending r d.bytes))

-- the reading behind a line that has ended, with so many writes to play
abbrev pub next_line : Reading → ℕ → Reading
next_line r n = record { held = nothing; number = r.number + 1; from = 0; upto = n }

-- the line that is held has ended, and means this
unfoldable pub ended_as : Meaning → Reading → Desk → ℕ → Stepped
ended_as (writes ws) r d at = record {
  reading = next_line r (length ws);
  at = at;
  told = Nothing;
  desk = record { block = d.block; line = d.line; bytes = filled (writes ws) d.bytes; command = d.command };
}
ended_as (screen x) r d at = record {
  reading = next_line r 0;
  at = at;
  told = Nothing;
  desk = record { block = save (screened (load d.block) x); line = d.line; bytes = filled (screen x) d.bytes; command = d.command };
}
ended_as refused r d at = record { reading = next_line r 0; at = at; told = Refused; desk = d }

unfoldable pub ended : Reading → Desk → ℕ → Stepped
ended r d at = ended_as (meaning_marked (held_as r.held d.line)) r d at

-- the chunk's bytes from `at` on are taken, up to LF or up to its end
unfoldable pub took : Reading → Desk → List ℕ → ℕ → Bool → Stepped
took r d chunk at true = ended r d (at + 1)
took r d chunk at false = record { reading = r; at = at; told = Nothing; desk = d }

abbrev pub holding : Reading → Held → Reading
holding r h = record { held = h; number = r.number; from = 0; upto = 0 }

abbrev pub with_line : Desk → List ℕ → Desk
with_line d l = record { block = d.block; line = l; bytes = d.bytes; command = d.command }

unfoldable pub took_on : Reading → Desk → List ℕ → ℕ → Stepped
took_on r d chunk at =
    took (holding r (taken r.held chunk at).held) (with_line d (took_line r.held (up_to_lf (drop at chunk)) d.line)) chunk
    (taken r.held chunk at).at (ltb (taken r.held chunk at).at (length chunk))

unfoldable pub stepped : Reading → Desk → List ℕ → ℕ → Stepped
stepped r d chunk at = cond (ltb r.from r.upto) (ran_on r d at) (took_on r d chunk at)

-- ---- what a step tells

unfoldable pub told_by : Told → Reading → List ℕ → List Event
told_by Nothing r command = []
told_by (Command n) r command = completed (take (16 * n) command) ∷ []
told_by Refused r command = refusal (r.number - 1) ∷ []

-- a command that is told has its packets in the buffer
unfoldable pub ToldFits : Told → Type 0
ToldFits Nothing = Unit {0}
ToldFits (Command n) = n < 8
ToldFits Refused = Unit {0}

unfoldable pub events_on : Stepped → List Event
events_on s = told_by s.told s.reading s.desk.command

unfoldable pub is_refused : Told → Bool
is_refused Nothing = false
is_refused (Command n) = false
is_refused Refused = true

-- ---- steps

-- where a fill stands: the reading, how far the chunk is used up, whether the last step refused a line, the buffers, and all that was told
pub record Filling : Type 0 where
  pub reading : Reading
  pub at : ℕ
  pub refused : Bool
  pub desk : Desk
  pub events : List Event

-- the room that the longest text of a step needs: a command of 112 bytes has 225
abbrev pub step_room : ℕ
step_room = 256

-- a fill goes on up to a refused line, while the next text has room, and while anything is left
unfoldable pub goes_on : Bool → ℕ → Reading → ℕ → ℕ → ℕ → Bool
goes_on over written r at size room = not over && (leb (written + step_room) room && ltb 0 (left r size at))

unfoldable pub filled_by : ℕ → Stepped → Filled
filled_by n s = record { reading = s.reading; at = s.at; size = n + length (shown (events_on s)); refused = is_refused s.told }

unfoldable pub next_by : Filling → Stepped → Filling
next_by f s = record { reading = s.reading; at = s.at; refused = is_refused s.told; desk = s.desk; events = f.events ++ events_on s }

unfoldable pub next : Filling → List ℕ → Filling
next f chunk = next_by f (stepped f.reading f.desk chunk f.at)

-- what the code leaves of a step: the step, and its text behind the text that there was
pub record Said (f : Filled) (d : Desk) (chunk out : List ℕ) (g : Filled) (e : Desk) (out' : List ℕ) : Type 0 where
  pub goes : g ≡ filled_by f.size (stepped f.reading d chunk f.at)
  pub lends : e ≡ (stepped f.reading d chunk f.at).desk
  pub fits : g.size ≤ length out
  pub tells : out' ≡ over f.size (length (shown (events_on (stepped f.reading d chunk f.at)))) (shown (events_on (stepped f.reading d chunk f.at))) out

-- at most n steps more
unfoldable pub fills : ℕ → ℕ → Filling → List ℕ → Filling
fills zero room f chunk = f
fills (suc n) room f chunk =
    cond (goes_on f.refused (length (shown f.events)) f.reading f.at (length chunk) room) (fills n room (next f chunk) chunk) f

-- as many as there are
unfoldable pub fill : ℕ → Reading → Desk → List ℕ → ℕ → Filling
fill room r d chunk at = fills (left r (length chunk) at) room (record { reading = r; at = at; refused = false; desk = d; events = [] }) chunk

unfoldable pub filled_to : Filling → Filled
filled_to f = record { reading = f.reading; at = f.at; size = length (shown f.events); refused = f.refused }

-- what the code leaves of a fill: its text is at the front of the output, whose tail is kept
pub record Full (r : Reading) (d : Desk) (chunk : List ℕ) (at : ℕ) (out : List ℕ) (g : Filled) (e : Desk) (out' : List ℕ) : Type 0 where
  pub goes : g ≡ filled_to (fill (length out) r d chunk at)
  pub lends : e ≡ (fill (length out) r d chunk at).desk
  pub fits : g.size ≤ length out
  pub tells : out' ≡ over 0 (length (shown (fill (length out) r d chunk at).events)) (shown (fill (length out) r d chunk at).events) out

-- ---- what the steps require, and keep

-- a line's number and the lengths stay below the greatest number of 64 bits
abbrev pub most64 : ℕ
most64 = 18446744073709551615

pub record Fit (r : Reading) (d : Desk) : Type 0 where
  pub valid : Valid d.block
  pub line_long : length d.line ≡ line_digits
  pub bytes_long : length d.bytes ≡ capture_bytes
  pub command_long : store_bytes ≤ length d.command
  pub held_fits : held_size r.held ≤ line_digits
  pub from_fits : r.from ≤ r.upto
  pub upto_fits : r.upto ≤ capture_bytes
  pub number_fits : 1 ≤ r.number

-- ---- what is still to be told from here, where the input goes on with `rest`; and the unit at its end

unfoldable pub to_tell : Reading → Desk → List ℕ → List Event
to_tell r d rest =
    write_events (load d.block) (pending r d.bytes)
    ++ events_from (after_writes (load d.block) (pending r d.bytes)) r.number (map meaning_marked (marked_from (held_as r.held d.line) rest))

unfoldable pub to_end : Reading → Desk → List ℕ → Sgb
to_end r d rest = after_lines (after_writes (load d.block) (pending r d.bytes)) (map meaning_marked (marked_from (held_as r.held d.line) rest))
