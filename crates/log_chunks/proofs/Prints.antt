-- What the programs print is what the bytes of the log say. Fills that begin at the start of an input and go on to its end, however it is
-- cut into chunks, and then the LF that a last line may lack, tell the whole: `replay` prints their texts and the closing line, `plate` the
-- first refusal alone, or the picture.
use mathlib.Core.Path.{◌≡◌, refl, sym, ap, ap₂, ◌∙◌}
use mathlib.Core.Bool.{Bool, true, false, cond, false≢true}
use mathlib.Core.List.{List, [], ◌∷◌, ◌++◌, map, append_assoc, append-nil}
use mathlib.Core.Option.{Option, some}
use Prim.Native.Nat.{ℕ, zero, suc, ◌-◌, ◌≤◌}
use borrow.Author.Tests.{ltb-true}
use lib.Dec.{ltb}
use lib.ListN.{length, drop}
use Rattle.bits.proofs.Tests.{either}
use Rattle.layout.specs.Block.{load, save}
use Rattle.layout.specs.Fresh.{post_boot}
use Rattle.layout.specs.Sgb.{Sgb}
use Rattle.layout.proofs.Saved.{clauses, save-load}
use Rattle.log_line.specs.Lines.{marked_from, meaning_marked}
use Rattle.log_line.specs.Line.{line_digits}
use Rattle.log_line.specs.Split.{held_as}
use Rattle.log_line.specs.declared.lines.Held.{Held}
use Rattle.log_line.specs.declared.lines.Held.TheVariants as H
use Rattle.log_reading.specs.Point.{lf_behind}
use Rattle.log_line.proofs.Marked.{marked-last}
use Rattle.log_line.proofs.Splitting.{long-not-empty, held-not-empty}
use Rattle.log_text.specs.Text.{refusal_text}
use Rattle.log_chunks.specs.Events.{Event, completed, refusal, write_events, after_writes, events_from, after_lines, events_of, unit_after}
use Rattle.log_chunks.specs.Texts.{shown, head_line, replay_text, picture_lines, refused_or, plate_text}
use Rattle.log_chunks.specs.Steps.{Desk, Stepped, begun, pending, stepped, told_by, events_on, is_refused, left, Filling, goes_on, next_by, next, fills, fill, last_lf, to_tell, to_end, Fit}
use Rattle.log_reading.specs.declared.Reading.{Reading}
use Rattle.log_chunks.specs.declared.Told.{Told}
use Rattle.log_chunks.specs.declared.Told.TheVariants.{Nothing, Command, Refused}
use Rattle.log_chunks.proofs.Fills.{Tells, fill-tells, fill-ends}
use Rattle.log_chunks.proofs.Turns.{shown-append}
use Rattle.log_chunks.proofs.Whole.{begins, begins-end, all_told, all_done}

-- ---- fills, one after the other

pub fill_on : (room : ℕ) (r : Reading) (d : Desk) (chunk : List ℕ) (at : ℕ) (rest : List ℕ) → Fit r d → at ≤ length chunk
    → Tells r d (drop at chunk ++ rest) (fill room r d chunk at).events (fill room r d chunk at).reading (fill room r d chunk at).desk
    (drop (fill room r d chunk at).at chunk ++ rest)
fill_on room r d chunk at rest k h = record { tells = fill-tells room r d chunk at k h rest; ends = fill-ends room r d chunk at k h rest }

pub tells_on : (r r₁ r₂ : Reading) (d d₁ d₂ : Desk) (x y z : List ℕ) (es fs : List Event) → Tells r d x es r₁ d₁ y → Tells r₁ d₁ y fs r₂ d₂ z → Tells r d x (es ++ fs) r₂ d₂ z
tells_on r r₁ r₂ d d₁ d₂ x y z es fs a b = record {
  tells = a.tells ∙ ap (λ (l : List Event). es ++ l) b.tells ∙ sym (append_assoc es fs (to_tell r₂ d₂ z));
  ends = a.ends ∙ b.ends;
}

-- ---- a last line that lacks its LF is as one that has it

held-end : (h : Held) (line : List ℕ) → length line ≡ line_digits → marked_from (held_as h line) [] ≡ marked_from (held_as h line) (lf_behind h)
unfolding lf_behind
held-end H.Long line f = marked-last (held_as H.Long line) (long-not-empty line)
held-end (H.Bytes n) line f = go (ltb 0 n) refl
  where
    go : (u : Bool) → ltb 0 n ≡ u → marked_from (held_as (H.Bytes n) line) [] ≡ marked_from (held_as (H.Bytes n) line) (cond u (10 ∷ []) [])
    go true k = marked-last (held_as (H.Bytes n) line) (held-not-empty n line f (ltb-true 0 n k))
    go false k = refl

marked_end : (r : Reading) (d : Desk) → Fit r d → marked_from (held_as r.held d.line) [] ≡ marked_from (held_as r.held d.line) (last_lf r)
unfolding last_lf
marked_end r d f = held-end r.held d.line f.line_long

pub last-tells : (r : Reading) (d : Desk) → Fit r d → to_tell r d [] ≡ to_tell r d (last_lf r)
unfolding to_tell
last-tells r d f =
    ap
    (λ (ms : List (Option (List ℕ))).
    write_events (load d.block) (pending r d.bytes) ++ events_from (after_writes (load d.block) (pending r d.bytes)) r.number (map meaning_marked ms))
    (marked_end r d f)

pub last-ends : (r : Reading) (d : Desk) → Fit r d → to_end r d [] ≡ to_end r d (last_lf r)
unfolding to_end
last-ends r d f = ap (λ (ms : List (Option (List ℕ))). after_lines (after_writes (load d.block) (pending r d.bytes)) (map meaning_marked ms)) (marked_end r d f)

-- ---- which events are commands alone

unfoldable pub Commands : List Event → Type 0
Commands [] = Unit {0}
Commands (completed c ∷ es) = Commands es
Commands (refusal k ∷ es) = ⊥

pub passes : (es fs : List Event) (p : List ℕ) → Commands es → refused_or (es ++ fs) p ≡ refused_or fs p
unfolding Commands refused_or
passes [] fs p c = refl
passes (completed d ∷ es) fs p c = passes es fs p c
passes (refusal k ∷ es) fs p c = absurd c

-- commands, and then the refusal of line k alone
unfoldable pub Ends : List Event → ℕ → Type 0
Ends [] k = ⊥
Ends (completed c ∷ es) k = Ends es k
Ends (refusal j ∷ []) k = j ≡ k
Ends (refusal j ∷ (e ∷ es)) k = ⊥

pub refused-first : (es more : List Event) (k : ℕ) (p : List ℕ) → Ends es k → refused_or (es ++ more) p ≡ refusal_text k
unfolding Ends refused_or
refused-first [] more k p h = absurd h
refused-first (completed c ∷ es) more k p h = refused-first es more k p h
refused-first (refusal j ∷ []) more k p h = ap refusal_text h
refused-first (refusal j ∷ (e ∷ es)) more k p h = absurd h

-- a fill tells commands alone, or ends with the refusal of the line before its reading's next
unfoldable pub Shape : Bool → List Event → ℕ → Type 0
Shape false es k = Commands es
Shape true es k = Ends es k

told_shape : (t : Told) (es : List Event) (r : Reading) (c : List ℕ) → Commands es → Shape (is_refused t) (es ++ told_by t r c) (r.number - 1)
unfolding Commands Ends Shape is_refused told_by
told_shape Nothing [] r c h = tt
told_shape Nothing (completed x ∷ es) r c h = told_shape Nothing es r c h
told_shape Nothing (refusal j ∷ es) r c h = absurd h
told_shape (Command n) [] r c h = tt
told_shape (Command n) (completed x ∷ es) r c h = told_shape (Command n) es r c h
told_shape (Command n) (refusal j ∷ es) r c h = absurd h
told_shape Refused [] r c h = refl
told_shape Refused (completed x ∷ es) r c h = told_shape Refused es r c h
told_shape Refused (refusal j ∷ es) r c h = absurd h

abbrev Shaped : Filling → Type 0
Shaped f = Shape f.refused f.events (f.reading.number - 1)

-- a fill goes on only where nothing was refused
open-commands : (t : Bool) (written : ℕ) (r : Reading) (at size room : ℕ) (es : List Event) (k : ℕ) → goes_on t written r at size room ≡ true → Shape t es k → Commands es
unfolding goes_on Shape
open-commands true written r at size room es k e h = absurd (false≢true e)
open-commands false written r at size room es k e h = h

next_shape : (f : Filling) (chunk : List ℕ) → Commands f.events → Shaped (next f chunk)
unfolding next next_by events_on
next_shape f chunk h =
    let s : Stepped = stepped f.reading f.desk chunk f.at in
    told_shape s.told f.events s.reading s.desk.command h

fills_shape : (n room : ℕ) (f : Filling) (chunk : List ℕ) → Shaped f → Shaped (fills n room f chunk)
unfolding fills
fills_shape zero room f chunk h = h
fills_shape (suc n) room f chunk h =
    either Shaped (goes_on f.refused (length (shown f.events)) f.reading f.at (length chunk) room)
    (λ e.
    fills_shape n room (next f chunk) chunk
    (next_shape f chunk (open-commands f.refused (length (shown f.events)) f.reading f.at (length chunk) room f.events (f.reading.number - 1) e h)))
    (λ e. h)

pub fill_shape : (room : ℕ) (r : Reading) (d : Desk) (chunk : List ℕ) (at : ℕ) → Shaped (fill room r d chunk at)
unfolding fill
fill_shape room r d chunk at = fills_shape (left r (length chunk) at) room (record { reading = r; at = at; refused = false; desk = d; events = [] }) chunk (unfold Shape Commands in tt)

-- ---- the whole

-- the input is read up to its end, then the LF that it may lack, and nothing is left
module _ (d : Desk) (boot : d.block ≡ post_boot) (input : List ℕ) (es fs : List Event) (r r' : Reading) (d₁ d₂ : Desk) (reads : Tells begun d input es r d₁ []) (fit : Fit r d₁)
    (last : Tells r d₁ (last_lf r) fs r' d₂ []) (fit' : Fit r' d₂) (no_writes : r'.upto ≤ r'.from) (none-held : held_as r'.held d₂.line ≡ some []) where
  pub events-whole : events_of input ≡ es ++ fs
  events-whole =
      sym (begins d boot input) ∙ reads.tells
      ∙ ap (λ (l : List Event). es ++ l) (last-tells r d₁ fit ∙ last.tells ∙ ap (λ (l : List Event). fs ++ l) (all_told r' d₂ no_writes none-held) ∙ append-nil fs)

  pub unit-whole : unit_after input ≡ load d₂.block
  unit-whole = sym (begins-end d boot input) ∙ reads.ends ∙ last-ends r d₁ fit ∙ last.ends ∙ all_done r' d₂ no_writes none-held

  pub replay-prints : replay_text input ≡ shown es ++ (shown fs ++ head_line d₂.block)
  unfolding replay_text
  replay-prints =
      ap₂ (λ (l : List Event) (u : Sgb). shown l ++ head_line (save u)) events-whole unit-whole
      ∙ ap (λ (b : List ℕ). shown (es ++ fs) ++ head_line b) (save-load d₂.block (clauses d₂.block fit'.valid.tested))
      ∙ ap (λ (l : List ℕ). l ++ head_line d₂.block) (shown-append es fs)
      ∙ append_assoc (shown es) (shown fs) (head_line d₂.block)

  pub plate-prints : Commands es → Commands fs → plate_text input ≡ picture_lines (load d₂.block)
  unfolding plate_text refused_or
  plate-prints a b =
      let p : List ℕ = picture_lines (load d₂.block) in
      ap₂ (λ (l : List Event) (u : Sgb). refused_or l (picture_lines u)) events-whole unit-whole
      ∙ passes es fs p a ∙ ap (λ (l : List Event). refused_or l p) (sym (append-nil fs)) ∙ passes fs [] p b

-- a fill that ends with a refused line ends a plate, whatever comes behind it
pub plate-refuses : (d : Desk) → d.block ≡ post_boot → (input : List ℕ) (es fs more : List Event) (k : ℕ) → to_tell begun d input ≡ es ++ (fs ++ more) → Commands es → Ends fs k
    → plate_text input ≡ refusal_text k
unfolding plate_text
plate-refuses d boot input es fs more k e c h =
    let p : List ℕ = picture_lines (unit_after input) in
    ap (λ (l : List Event). refused_or l p) (sym (begins d boot input) ∙ e) ∙ passes es (fs ++ more) p c ∙ refused-first fs more k p h
