-- Demand 3 of logs by their bytes: two inputs whose writes and screens are aligned, merged differently and cut into lines in any way, end in
-- the same unit and complete the same commands, whatever lines of theirs are refused. `replay` then prints the same but for its refusals, and
-- `plate` the same where the first refused line has the same number, or none is refused.
use mathlib.Core.Path.{◌≡◌, refl, sym, ap, ap₂, ◌∙◌}
use mathlib.Core.Bool.{Bool, true, false, cond}
use mathlib.Core.List.{List, [], ◌∷◌, ◌++◌, map}
use mathlib.Core.Option.{Option, none, some}
use Prim.Native.Nat.{ℕ, suc}
use native.Mathlib.Omega.{arith}
use lib.Dec.{eqb, leb}
use lib.ListN.{length}
use Rattle.parts.specs.Parts.{capture_bytes}
use Rattle.layout.specs.Block.{save}
use Rattle.layout.specs.Fresh.{fresh}
use Rattle.layout.specs.Sgb.{Sgb}
use Rattle.rules.specs.Write.{written, answer}
use Rattle.rules.specs.Screen.{screened}
use Rattle.order.specs.Log as order
use Rattle.order.proofs.Order as proved
use Rattle.hex_digits.specs.Hex.{bytes_of}
use Rattle.log_line.specs.Line.{Meaning, writes, screen, refused, by_kind, by_bytes, meaning_of}
use Rattle.log_line.specs.Lines.{lines_of}
use Rattle.log_text.specs.Text.{refusal_text}
use Rattle.log_chunks.specs.Events.{Event, completed, refusal, answer_events, write_events, after_writes, line_events, after_line, events_from, after_lines, meanings, events_of, unit_after}
use Rattle.log_chunks.specs.Texts.{shown, head_line, replay_text, picture_lines, refused_or, plate_text}
use Rattle.log_chunks.specs.Merged.{line_acts, acts_in, acts_of, refused_from, refused_line, commands_of, unrefused_text}
use Rattle.log_chunks.proofs.Prints.{Commands, passes}

-- ---- a line's screen is one that is accepted

unfoldable Accepted : Meaning → Type 0
Accepted (writes ws) = Unit {0}
Accepted (screen x) = order.accepts x ≡ true
Accepted refused = Unit {0}

by-kind : (d : List ℕ) → Accepted (by_kind d)
unfolding Accepted by_kind
by-kind [] = tt
by-kind (k ∷ d) = go (eqb k 1) (leb (length d) capture_bytes) (eqb k 2) (eqb (length d) capture_bytes) refl
  where
    go : (s t u v : Bool) → eqb (length d) capture_bytes ≡ v → Accepted (cond s (cond t (writes d) refused) (cond u (cond v (screen d) refused) refused))
    go true true u v e = tt
    go true false u v e = tt
    go false t true true e = unfold order.accepts in e
    go false t true false e = tt
    go false t false v e = tt

accepted_by_bytes : (o : Option (List ℕ)) → Accepted (by_bytes o)
unfolding Accepted by_bytes
accepted_by_bytes none = tt
accepted_by_bytes (some d) = by-kind d

unfoldable AllAccepted : List Meaning → Type 0
AllAccepted [] = Unit {0}
AllAccepted (m ∷ ms) = Accepted m × AllAccepted ms

all_accepted : (ls : List (List ℕ)) → AllAccepted (map meaning_of ls)
unfolding AllAccepted meaning_of
all_accepted [] = tt
all_accepted (l ∷ ls) = (accepted_by_bytes (bytes_of l), all_accepted ls)

sees-screened : (u : Sgb) (x : List ℕ) → order.accepts x ≡ true → order.sees u x ≡ screened u x
unfolding order.sees order.shown_if screened
sees-screened u x e = rw e refl

-- ---- the unit at the end

writes-last : (u : Sgb) (ws : List ℕ) (l : List order.Act) → (order.run u (map order.write ws ++ l)).last ≡ (order.run (after_writes u ws) l).last
unfolding order.run order.after_write after_writes
writes-last u [] l = refl
writes-last u (v ∷ vs) l = writes-last (written u v) vs l

line-last : (u : Sgb) (m : Meaning) (l : List order.Act) → Accepted m → (order.run u (line_acts m ++ l)).last ≡ (order.run (after_line u m) l).last
unfolding order.run order.after_screen line_acts after_line Accepted
line-last u (writes ws) l t = writes-last u ws l
line-last u (screen x) l t = ap (λ (w : Sgb). (order.run w l).last) (sees-screened u x t)
line-last u refused l t = refl

lines-last : (u : Sgb) (ms : List Meaning) → AllAccepted ms → (order.run u (acts_in ms)).last ≡ after_lines u ms
unfolding order.run acts_in after_lines AllAccepted
lines-last u [] t = refl
lines-last u (m ∷ ms) t = line-last u m (acts_in ms) t.0 ∙ lines-last (after_line u m) ms t.1

-- ---- the commands

-- the commands among the answers to writes
unfoldable commands_among : List (Option (List ℕ)) → List (List ℕ)
commands_among [] = []
commands_among (none ∷ l) = commands_among l
commands_among (some c ∷ l) = c ∷ commands_among l

commands-append : (es fs : List Event) → commands_of (es ++ fs) ≡ commands_of es ++ commands_of fs
unfolding commands_of
commands-append [] fs = refl
commands-append (completed c ∷ es) fs = ap (λ (l : List (List ℕ)). c ∷ l) (commands-append es fs)
commands-append (refusal k ∷ es) fs = commands-append es fs

writes-told : (u : Sgb) (ws : List ℕ) (l : List order.Act)
    → commands_among (order.run u (map order.write ws ++ l)).answers ≡ commands_of (write_events u ws) ++ commands_among (order.run (after_writes u ws) l).answers
unfolding order.run order.after_write after_writes write_events commands_of
writes-told u [] l = refl
writes-told u (v ∷ vs) l = go (answer u v) (writes-told (written u v) vs l)
  where
    rest : List (Option (List ℕ))
    rest = (order.run (written u v) (map order.write vs ++ l)).answers

    go : (o : Option (List ℕ)) → commands_among rest ≡ commands_of (write_events (written u v) vs) ++ commands_among (order.run (after_writes (written u v) vs) l).answers
        → commands_among (o ∷ rest) ≡ commands_of (answer_events o ++ write_events (written u v) vs) ++ commands_among (order.run (after_writes (written u v) vs) l).answers
    go none e = unfold commands_among answer_events in e
    go (some c) e = unfold commands_among answer_events in ap (λ (x : List (List ℕ)). c ∷ x) e

line-told : (u : Sgb) (k : ℕ) (m : Meaning) (l : List order.Act) → Accepted m
    → commands_among (order.run u (line_acts m ++ l)).answers ≡ commands_of (line_events u k m) ++ commands_among (order.run (after_line u m) l).answers
unfolding order.run order.after_screen line_acts after_line line_events commands_of Accepted
line-told u k (writes ws) l t = writes-told u ws l
line-told u k (screen x) l t = ap (λ (w : Sgb). commands_among (order.run w l).answers) (sees-screened u x t)
line-told u k refused l t = refl

lines-told : (u : Sgb) (k : ℕ) (ms : List Meaning) → AllAccepted ms → commands_among (order.run u (acts_in ms)).answers ≡ commands_of (events_from u k ms)
unfolding order.run acts_in events_from commands_of commands_among AllAccepted
lines-told u k [] t = refl
lines-told u k (m ∷ ms) t =
    line-told u k m (acts_in ms) t.0
    ∙ ap (λ (l : List (List ℕ)). commands_of (line_events u k m) ++ l) (lines-told (after_line u m) (suc k) ms t.1)
    ∙ sym (commands-append (line_events u k m) (events_from (after_line u m) (suc k) ms))

-- ---- which lines are refused is told by the lines alone

commands_only : (u : Sgb) (ws : List ℕ) → Commands (write_events u ws)
unfolding write_events
commands_only u [] = unfold Commands in tt
commands_only u (v ∷ vs) = go (answer u v) (commands_only (written u v) vs)
  where
    go : (o : Option (List ℕ)) → Commands (write_events (written u v) vs) → Commands (answer_events o ++ write_events (written u v) vs)
    go none h = unfold answer_events in h
    go (some c) h = unfold answer_events Commands in h

-- what `plate` prints where this is the first refused line, or none is
unfoldable plate_by : Option ℕ → List ℕ → List ℕ
plate_by none picture = picture
plate_by (some k) picture = refusal_text k

refused-by-lines : (u : Sgb) (k : ℕ) (ms : List Meaning) (p : List ℕ) → refused_or (events_from u k ms) p ≡ plate_by (refused_from k ms) p
unfolding events_from refused_from line_events after_line refused_or plate_by
refused-by-lines u k [] p = refl
refused-by-lines u k (writes ws ∷ ms) p =
    passes (write_events u ws) (events_from (after_writes u ws) (suc k) ms) p (commands_only u ws) ∙ refused-by-lines (after_writes u ws) (suc k) ms p
refused-by-lines u k (screen x ∷ ms) p = refused-by-lines (screened u x) (suc k) ms p
refused-by-lines u k (refused ∷ ms) p = refl

-- with no line refused the events are commands alone
join : (es fs : List Event) → Commands es → Commands fs → Commands (es ++ fs)
unfolding Commands
join [] fs a b = b
join (completed c ∷ es) fs a b = join es fs a b
join (refusal k ∷ es) fs a b = absurd a

unrefused : (u : Sgb) (k : ℕ) (ms : List Meaning) → refused_from k ms ≡ none → Commands (events_from u k ms)
unfolding events_from refused_from line_events after_line
unrefused u k [] e = unfold Commands in tt
unrefused u k (writes ws ∷ ms) e = join (write_events u ws) (events_from (after_writes u ws) (suc k) ms) (commands_only u ws) (unrefused (after_writes u ws) (suc k) ms e)
unrefused u k (screen x ∷ ms) e = unrefused (screened u x) (suc k) ms e
unrefused u k (refused ∷ ms) e = absurd (let z : ◌≡◌ {A = ℕ} 0 1 = cc in omega arith)

back : (es : List Event) → Commands es → map completed (commands_of es) ≡ es
unfolding Commands commands_of
back [] c = refl
back (completed x ∷ es) c = ap (λ (l : List Event). completed x ∷ l) (back es c)
back (refusal k ∷ es) c = absurd c

-- ---- what each program prints of an input, by its first refused line

module _ (input : List ℕ) where
  plate-by : plate_text input ≡ plate_by (refused_line input) (picture_lines (unit_after input))
  unfolding plate_text refused_line events_of
  plate-by = refused-by-lines (fresh true) 1 (meanings input) (picture_lines (unit_after input))

  pub plate-draws : refused_line input ≡ none → plate_text input ≡ picture_lines (unit_after input)
  unfolding plate_by
  plate-draws e = plate-by ∙ ap (λ (o : Option ℕ). plate_by o (picture_lines (unit_after input))) e

  pub plate-refuses-line : (k : ℕ) → refused_line input ≡ some k → plate_text input ≡ refusal_text k
  unfolding plate_by
  plate-refuses-line k e = plate-by ∙ ap (λ (o : Option ℕ). plate_by o (picture_lines (unit_after input))) e

  pub replay-unrefused : refused_line input ≡ none → replay_text input ≡ unrefused_text input
  unfolding replay_text unrefused_text refused_line events_of
  replay-unrefused e =
      ap (λ (l : List Event). shown l ++ head_line (save (unit_after input))) (sym (back (events_of input) (unrefused (fresh true) 1 (meanings input) e)))

-- ---- demand 3 of two inputs

-- the same writes and screens in the same order, cut into lines in any way, are aligned
pub recut : (a b : List ℕ) → acts_of a ≡ acts_of b → order.Aligned (fresh true) (acts_of a) (acts_of b)
recut a b e = record { same_writes = ap order.writes_of e; same_screens = ap order.screens_of e; same_before = λ i p. ap (λ (l : List order.Act). order.screens_before l i) e }

module _ (a b : List ℕ) (same : order.Aligned (fresh true) (acts_of a) (acts_of b)) where
  -- whatever lines are refused
  pub logs-end-alike : unit_after a ≡ unit_after b
  unfolding unit_after meanings acts_of
  logs-end-alike =
      sym (lines-last (fresh true) (meanings a) (all_accepted (lines_of a)))
      ∙ ap (λ (o : order.Outcome). o.last) (proved.order (fresh true) (acts_of a) (acts_of b) same)
      ∙ lines-last (fresh true) (meanings b) (all_accepted (lines_of b))

  pub logs-tell-alike : commands_of (events_of a) ≡ commands_of (events_of b)
  unfolding events_of meanings acts_of
  logs-tell-alike =
      sym (lines-told (fresh true) 1 (meanings a) (all_accepted (lines_of a)))
      ∙ ap (λ (o : order.Outcome). commands_among o.answers) (proved.order (fresh true) (acts_of a) (acts_of b) same)
      ∙ lines-told (fresh true) 1 (meanings b) (all_accepted (lines_of b))

  pub replays-alike-but-refusals : unrefused_text a ≡ unrefused_text b
  unfolding unrefused_text
  replays-alike-but-refusals =
      ap₂ (λ (l : List (List ℕ)) (u : Sgb). shown (map completed l) ++ head_line (save u)) logs-tell-alike logs-end-alike

  -- with no line refused
  pub replays-alike : refused_line a ≡ none → refused_line b ≡ none → replay_text a ≡ replay_text b
  replays-alike p q = replay-unrefused a p ∙ replays-alike-but-refusals ∙ sym (replay-unrefused b q)

  -- with none refused, or the same line first
  pub plates-alike : refused_line a ≡ refused_line b → plate_text a ≡ plate_text b
  plates-alike e = plate-by a ∙ ap₂ (λ (o : Option ℕ) (u : Sgb). plate_by o (picture_lines u)) e logs-end-alike ∙ sym (plate-by b)
