-- Texts one after the other: what was written goes on by what is written, and a refusal ends a plate wherever it stands.
use mathlib.Core.Path.{◌≡◌, refl, sym, ap, ◌∙◌}
use mathlib.Core.Bool.{Bool, true, false, false≢true}
use mathlib.Core.List.{List, [], ◌++◌, append_assoc}
use Prim.Native.Nat.{ℕ, ◌+◌}
use lib.ListN.{length, take, drop, take-append-drop}
use lib.Seq.{take_at, take-append-add}
use Rattle.log_writer.specs.Tally.{tallied}
use Rattle.log_writer.proofs.Tallies.{tallied-append}
use Rattle.log_chunks.specs.Events.{Event}
use Rattle.log_chunks.specs.Texts.{shown, refused_or}
use Rattle.log_chunks.proofs.Prints.{Shape, passes, refused-first}
use Rattle.log_chunks.proofs.Turns.{shown-append}
use Rattle.log_reader.specs.Read.{text_of, Unrefused, Stopped}

pub text_none : (quiet : Bool) → text_of quiet [] ≡ []
unfolding text_of shown
text_none true = refl
text_none false = refl

pub text-quiet : (quiet : Bool) (es : List Event) → quiet ≡ true → text_of quiet es ≡ []
unfolding text_of
text-quiet true es e = refl
text-quiet false es e = absurd (false≢true e)

pub text-append : (quiet : Bool) (es fs : List Event) → text_of quiet (es ++ fs) ≡ text_of quiet es ++ text_of quiet fs
unfolding text_of
text-append true es fs = refl
text-append false es fs = shown-append es fs

-- ---- tallies

module _ (quiet : Bool) (t u : ℕ) (es fs : List Event) (so_far : u ≡ tallied t (text_of quiet es)) where
  abbrev a : List ℕ
  a = text_of quiet es

  abbrev b : List ℕ
  b = text_of quiet fs

  on : (l : List ℕ) → tallied u l ≡ tallied t (a ++ l)
  on l = ap (λ (x : ℕ). tallied x l) so_far ∙ sym (tallied-append t a l)

  pub printed-on : (v : ℕ) → v ≡ tallied u b → v ≡ tallied t (text_of quiet (es ++ fs))
  printed-on v e = e ∙ on b ∙ ap (tallied t) (sym (text-append quiet es fs))

  pub printed-cut : (v n : ℕ) → v ≡ tallied u (take n b) → v ≡ tallied t (take (length a + n) (text_of quiet (es ++ fs)))
  printed-cut v n e = e ∙ on (take n b) ∙ ap (tallied t) (sym (take-append-add a b n) ∙ ap (take (length a + n)) (sym (text-append quiet es fs)))

-- a beginning of a text is one of every longer text
pub front : (n : ℕ) (a b : List ℕ) → take (length (take n a)) (a ++ b) ≡ take n a
front n a b =
    ap (λ (l : List ℕ). take (length (take n a)) (l ++ b)) (sym (take-append-drop n a))
    ∙ ap (take (length (take n a))) (append_assoc (take n a) (drop n a) b)
    ∙ take_at (take n a) (drop n a ++ b) (length (take n a)) refl

-- ---- refusals

pub passed_on : (es fs : List Event) → Unrefused es → Unrefused fs → Unrefused (es ++ fs)
passed_on es fs a b = λ more picture. ap (λ (l : List Event). refused_or l picture) (append_assoc es fs more) ∙ a (fs ++ more) picture ∙ b more picture

pub stopped_on : (es fs : List Event) (k : ℕ) → Unrefused es → Stopped fs k → Stopped (es ++ fs) k
stopped_on es fs k a b = λ more picture. ap (λ (l : List Event). refused_or l picture) (append_assoc es fs more) ∙ a (fs ++ more) picture ∙ b more picture

pub shape_passed : (es : List Event) (k : ℕ) → Shape false es k → Unrefused es
unfolding Shape
shape_passed es k h = λ more picture. passes es more picture h

pub shape-stopped : (es : List Event) (k : ℕ) → Shape true es k → Stopped es k
unfolding Shape
shape-stopped es k h = λ more picture. refused-first es more k picture h
