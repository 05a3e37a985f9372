-- What reading leaves, by its state: what came is told and written, or a beginning of it is, or the first refused line ends it. What came
-- is a list of as many bytes as `read` brought; which bytes, the kit's contract of `read` does not say.
use Rattle.std.specs.Prelude.{ℕ, ◌+◌, ◌-◌, ◌≤◌, Bool, true, false, cond, List, [], ◌++◌, ◌≡◌, length, take}
use Rattle.layout.specs.Block.{load}
use Rattle.log_text.specs.Text.{refusal_text}
use Rattle.log_writer.specs.Tally.{tallied}
unfoldable pub use Rattle.log_writer.specs.Told.{ToldAs}
use Rattle.log_chunks.specs.Events.{Event, events_of, unit_after}
use Rattle.log_chunks.specs.Texts.{shown, refused_or, picture_lines, plate_text}
use Rattle.log_chunks.specs.Steps.{Desk, to_tell, to_end, Fit}
use Rattle.log_reading.specs.declared.Reading.{Reading}
use Rattle.log_reader.specs.Fed.{chunk_bytes}
use Rattle.log_reader.specs.declared.Read.{Read}
use Rattle.log_writer.specs.declared.State.{State}
use Rattle.log_writer.specs.declared.State.TheVariants.{Well, Failed, Refused}

-- ---- what is written, and what may come

-- a quiet reading writes nothing
unfoldable pub text_of : Bool → List Event → List ℕ
text_of true es = []
text_of false es = shown es

-- no line is refused among these events: what a plate prints is told by those behind them
abbrev pub Unrefused : List Event → Type 0
Unrefused es = (more : List Event) (picture : List ℕ) → refused_or (es ++ more) picture ≡ refused_or more picture

-- line k is the first that is refused, whatever comes behind
abbrev pub Stopped : List Event → ℕ → Type 0
Stopped es k = (more : List Event) (picture : List ℕ) → refused_or (es ++ more) picture ≡ refusal_text k

-- what an input may go on with: nothing, once it has ended
unfoldable pub Behind : Bool → List ℕ → Type 0
Behind true rest = rest ≡ []
Behind false rest = Unit {0}

-- ---- a fill, told

abbrev pub is_well : State → Bool
is_well Well = true
is_well Failed = false
is_well Refused = false

abbrev pub reads_on : State → Bool → Bool
reads_on s ended = cond ended false (is_well s)

-- ---- from one point of a reading to another

-- where a reading stands: its place in the log, the buffers, and the tally of what was written
pub record Point : Type 0 where
  pub reading : Reading
  pub desk : Desk
  pub tally : ℕ

abbrev pub point : Reading → Desk → ℕ → Point
point r d t = record { reading = r; desk = d; tally = t }

abbrev pub tells_from : Point → List ℕ → List Event
tells_from p rest = to_tell p.reading p.desk rest

-- of what came these events are told and written, and `left` is still to be taken, whatever the input goes on with
pub record Goes (quiet : Bool) (p : Point) (came : List ℕ) (es : List Event) (q : Point) (left : List ℕ) : Type 0 where
  pub tells : (rest : List ℕ) → tells_from p (came ++ rest) ≡ es ++ tells_from q (left ++ rest)
  pub ends : (rest : List ℕ) → to_end p.reading p.desk (came ++ rest) ≡ to_end q.reading q.desk (left ++ rest)
  pub prints : q.tally ≡ tallied p.tally (text_of quiet es)
  pub passes : quiet ≡ true → Unrefused es

-- all that came is taken, and its writes are played
pub record Onward (quiet : Bool) (p : Point) (came : List ℕ) (q : Point) : Type 0 where
  pub events : List Event
  pub goes : Goes quiet p came events q []
  pub played : q.reading.upto ≤ q.reading.from

-- the input has ended: these are all events, and the block is the unit at the end
pub record Finished (quiet : Bool) (p : Point) (came : List ℕ) (q : Point) : Type 0 where
  pub events : List Event
  pub tells : tells_from p came ≡ events
  pub ends : to_end p.reading p.desk came ≡ load q.desk.block
  pub prints : q.tally ≡ tallied p.tally (text_of quiet events)
  pub passes : quiet ≡ true → Unrefused events

-- these events are the first, whatever the input goes on with
abbrev pub Begins : Bool → Point → List ℕ → List Event → Type 0
Begins ended p came es = (rest : List ℕ) → Behind ended rest → (more : List Event) × (tells_from p (came ++ rest) ≡ es ++ more)

-- a failure: a beginning of the first events' text was written, and nothing more
pub record Cut (ended quiet : Bool) (p : Point) (came : List ℕ) (q : Point) : Type 0 where
  pub events : List Event
  pub begins : Begins ended p came events
  pub size : ℕ
  pub prints : q.tally ≡ tallied p.tally (take size (text_of quiet events))

-- a refused line, to which only a quiet reading stops: nothing was written
pub record Halted (ended quiet : Bool) (p : Point) (came : List ℕ) (q : Point) : Type 0 where
  pub events : List Event
  pub begins : Begins ended p came events
  pub stops : Stopped events (q.reading.number - 1)
  pub still : quiet ≡ true
  pub prints : q.tally ≡ p.tally

unfoldable pub Stands : State → Bool → Bool → Point → List ℕ → Point → Type 0
Stands Well false quiet p came q = Onward quiet p came q
Stands Well true quiet p came q = Finished quiet p came q
Stands Failed ended quiet p came q = Cut ended quiet p came q
Stands Refused ended quiet p came q = Halted ended quiet p came q

-- a read and what it fed
pub record Turned (quiet : Bool) (f : Read) (p : Point) (came : List ℕ) (g : Read) (q : Point) : Type 0 where
  pub fit : Fit q.reading q.desk
  pub numbered : q.reading.number ≤ p.reading.number + chunk_bytes
  pub counts : g.got ≡ f.got + length came
  pub short : length came ≤ chunk_bytes
  pub outcome : Stands g.state g.ended quiet p came q

-- ---- from the start of a log

-- an input that was read to its end: all its text is written; the block is the unit at its end; a quiet reading met no refused line
pub record ReadWhole (quiet : Bool) (input : List ℕ) (block : List ℕ) (t t' : ℕ) : Type 0 where
  pub unit_is : load block ≡ unit_after input
  pub prints : t' ≡ tallied t (text_of quiet (events_of input))
  pub passes : quiet ≡ true → plate_text input ≡ picture_lines (unit_after input)

-- by the state: the whole; a beginning of the text of the input, however it goes on; the first refused line, and nothing written
unfoldable pub Reached : State → Bool → Bool → List ℕ → Reading → List ℕ → ℕ → ℕ → Type 0
Reached Well false quiet input r block t t' = ⊥
Reached Well true quiet input r block t t' = ReadWhole quiet input block t t'
Reached Failed ended quiet input r block t t' =
    (n : ℕ)
    × ((rest : List ℕ) → Behind ended rest
    → (n ≤ length (text_of quiet (events_of (input ++ rest)))) × (t' ≡ tallied t (take n (text_of quiet (events_of (input ++ rest))))))
Reached Refused ended quiet input r block t t' =
    (quiet ≡ true) × ((t' ≡ t) × ((rest : List ℕ) → Behind ended rest → plate_text (input ++ rest) ≡ refusal_text (r.number - 1)))

-- what a program prints of an input that came: all of its text, or a beginning of it and nothing more, however the input goes on
unfoldable pub Printed : Bool → Bool → (List ℕ → List ℕ) → List ℕ → ℕ → ℕ → Type 0
Printed true ended text input t t' = (rest : List ℕ) → Behind ended rest → t' ≡ tallied t (text (input ++ rest))
Printed false ended text input t t' = (n : ℕ) × ((rest : List ℕ) → Behind ended rest → t' ≡ tallied t (take n (text (input ++ rest))))
