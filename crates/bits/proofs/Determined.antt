-- One law for the outcome of every call: a contract tells an answer, or bytes, by an equation, and what is told once is one. The calls'
-- statements are in `unit`, `log_line` and `export` (proofs/Determined); that an enum's cases are told apart stands with the enum.
use mathlib.Core.Path.{◌≡◌, sym, ◌∙◌}
use Rattle.bits.specs.Determined.{Once}

pub one : {R A : Type 0} {due : A} (told : R → A) → Once told → (r s : R) → told r ≡ due → told s ≡ due → r ≡ s
one told once r s p q = once r s (p ∙ sym q)

-- a number, bytes, or a colour that a contract names outright
pub same : {A : Type 0} {due : A} (r s : A) → r ≡ due → s ≡ due → r ≡ s
same {A} = one (λ (x : A). x) (λ r s e. e)
