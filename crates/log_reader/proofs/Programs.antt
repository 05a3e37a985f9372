-- What a program prints: where a text went out, or a beginning of it, and that text is the program's.
use mathlib.Core.Path.{◌≡◌, refl, sym, ap, ◌∙◌}
use mathlib.Core.Bool.{Bool, true, false}
use mathlib.Core.List.{List, [], ◌++◌, append-nil}
use Prim.Native.Nat.{ℕ}
use lib.ListN.{take}
use Rattle.log_writer.specs.Tally.{tallied, Sent}
use Rattle.log_reader.specs.Read.{Behind, Printed}

-- an input that has ended goes on with nothing
pub behind_all : (rest : List ℕ) (text : List ℕ → List ℕ) (input : List ℕ) → Behind true rest → text (input ++ rest) ≡ text input
unfolding Behind
behind_all rest text input h = ap (λ (l : List ℕ). text (input ++ l)) h ∙ ap text (append-nil input)

pub behind_none : (ended : Bool) → Behind ended []
unfolding Behind
behind_none true = refl
behind_none false = tt

-- what went out of x, which is the text of the input however it goes on
pub sent_printed : (whole ended : Bool) (text : List ℕ → List ℕ) (input x : List ℕ) (t t' : ℕ) → ((rest : List ℕ) → Behind ended rest → text (input ++ rest) ≡ x) → Sent whole t x t'
    → Printed whole ended text input t t'
unfolding Printed
sent_printed true ended text input x t t' is k = λ rest h. unfold Sent in k ∙ ap (tallied t) (sym (is rest h))
sent_printed false ended text input x t t' is k = unfold Sent in (k.0, λ rest h. k.1.1 ∙ ap (λ (l : List ℕ). tallied t (take k.0 l)) (sym (is rest h)))

-- nothing went out
pub none_printed : (ended : Bool) (text : List ℕ → List ℕ) (input : List ℕ) (t t' : ℕ) → t' ≡ t → Printed false ended text input t t'
unfolding Printed tallied
none_printed ended text input t t' e = (0, λ rest h. e)
