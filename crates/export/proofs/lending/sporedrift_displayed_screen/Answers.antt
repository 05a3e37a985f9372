-- The part that the call hands back tells by its length whether it is there, and the mode tells which it is.
use mathlib.Core.Path.{◌≡◌, refl, sym, ap, ◌∙◌}
use mathlib.Core.Bool.{Bool, true, false, cond, false≢true}
use mir.Val.{bool_byte}
use lib.ListN.{length}
use borrow.Author.Tests.{eq-eqb, eqb-true}
use Rattle.export_answers.specs.Coded.{value}
use Rattle.export.specs.Parts.{capture}
use Rattle.export.proofs.Places.{empty-placed, some-placed}
use Rattle.export.proofs.lending.sporedrift_displayed_screen.Goals as goal

byte-is : (b : Bool) → bool_byte b ≡ cond b 1 0
byte-is true = refl
byte-is false = refl

pub returns-then-is_empty : goal.returns-then-is_empty
unfolding capture
returns-then-is_empty c = sym (empty-placed _ _ (ap length (sym c.displayed_screen.ensures) ∙ eqb-true _ 0 (sym c.is_empty.ensures ∙ c.if-is_empty.true)))

pub returns : goal.returns
unfolding capture
returns c =
    c.value.ensures
    ∙ ap value (c.from.ensures ∙ byte-is _)
    ∙ sym (some-placed _ _ (λ e. false≢true (sym c.if-is_empty.false ∙ (c.is_empty.ensures ∙ eq-eqb _ 0 (ap length c.displayed_screen.ensures ∙ e)))))
