-- What a result crosses as is what its answer does, if each value crosses as what is told of it does. And what of an answer fits fits of the result.
use Prim.Native.Nat.{ℕ}
use mathlib.Core.Path.{◌≡◌, refl, sym, subst, ap, ◌∙◌}
use Rattle.std.specs.Prelude.{Result, Ok, Err, IfOk, Some, None}
use Rattle.std.specs.Prelude as code
use Rattle.pulses.specs.Answer.{Answer, given}
use Rattle.colour.specs.declared.Rgb555.{Rgb555}
use Rattle.border.specs.Border.{colour_of}
use Rattle.transfer.specs.declared.pending.Transfer.{Transfer}
use Rattle.transfer.specs.Pending.{number_of, landed_of}
use Rattle.unit.specs.Answers.{packets_of}
use Rattle.log_line.specs.declared.Line.{Line}
use Rattle.log_line.specs.declared.Line.TheVariants as L
use Rattle.log_line.specs.Calls.{line_told}
use Rattle.refusal.specs.declared.Refusal.{Refusal}
use Rattle.refusal.specs.Codes.{told_by, code_or_0}
use Rattle.export_answers.specs.Coded.{coded, value, optional, content_of, or_none}

-- ---- what it crosses as

pub crosses_as : {T A : Type 0} (f : T → A) (code : A → ℕ) (number : T → ℕ) → ((v : T) → number v ≡ code (f v)) → (r : Result T Refusal) (a : Answer A) → told_by f r ≡ a → coded number (told_by (λ v. v) r) ≡ coded code a
unfolding coded
crosses_as f code number e (Ok v) a t = e v ∙ ap (coded code) t
crosses_as f code number e (Err r) a t = ap (coded code) t

pub unit-crosses : (r : Result Unit Refusal) → coded (λ u. 0) (told_by (λ u. u) r) ≡ code_or_0 r
unfolding coded
unit-crosses (Ok u) = refl
unit-crosses (Err e) = refl

pub packets-optional : (o : code.Option ℕ) → or_none value o ≡ optional (packets_of o)
unfolding optional
packets-optional None = refl
packets-optional (Some n) = refl

pub colour-optional : (o : code.Option Rgb555) → or_none (λ c. value c.0) o ≡ optional (colour_of o)
unfolding optional colour_of
colour-optional None = refl
colour-optional (Some c) = refl

pub landed-optional : (o : code.Option Transfer) → or_none (λ t. value (number_of t)) o ≡ optional (landed_of o)
unfolding optional landed_of
landed-optional None = refl
landed-optional (Some t) = refl

pub line-content : (r : Result Line Refusal) → told_by content_of r ≡ line_told r
unfolding line_told
line-content (Ok (L.Writes n)) = refl
line-content (Ok L.Screen) = refl
line-content (Err e) = refl

-- ---- what of it fits

fits-told : {T A : Type 0} (f : T → A) (F : Answer A → Type 0) (r : Result T Refusal) → F (told_by f r) → IfOk r (λ v. F (given (f v)))
fits-told f F (Ok v) h = h
fits-told f F (Err e) h = tt

pub fits-as : {T A : Type 0} (f : T → A) (F : Answer A → Type 0) (r : Result T Refusal) (a : Answer A) → told_by f r ≡ a → F a → IfOk r (λ v. F (given (f v)))
fits-as f F r a t h = fits-told f F r (subst F (sym t) h)
