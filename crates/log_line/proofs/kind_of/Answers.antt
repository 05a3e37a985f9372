-- `log_line::kind_of` meets its contract: its tests are those of the form, in their order.
use mathlib.Core.Path.{ap, sym, ◌∙◌}
use native.Mathlib.Omega.{arith}
use Rattle.hex_digits.proofs.Reading.{digit_at}
use Rattle.log_line.specs.Calls.{kind_told}
use Rattle.log_line.proofs.Form.{too_short, refused_too_long, not-spelled, some-writes, other-kind}
use Rattle.log_line.proofs.Told.{screen-told}
use Rattle.log_line.proofs.kind_of.Goals as goal
use Rattle.log_line.proofs.kind_of.Goals.{then-text-lt2-via-then-text-lt2, then-text-lt2-via-else-text-lt2+then-text-gt-LINE_DIGITS, then-text-lt2-via-else-text-lt2+else-text-gt-LINE_DIGITS+then-not-spells}

pub returns-then-text-lt2 : goal.returns-then-text-lt2
unfolding kind_told
returns-then-text-lt2 c =
    let s = c.args.text.now in
    sym (ap kind_told (elim c.then-text-lt2.branch [
      | then-text-lt2-via-then-text-lt2 w ↦ too_short s w.if-text-lt2.true
      | then-text-lt2-via-else-text-lt2+then-text-gt-LINE_DIGITS w ↦ refused_too_long s (omega arith)
      | then-text-lt2-via-else-text-lt2+else-text-gt-LINE_DIGITS+then-not-spells w ↦ not-spelled s (sym w.spells.ensures ∙ w.if-not-spells.true)
    ]))

pub two_digits-requires : goal.two_digits-requires
two_digits-requires c =
    let good = sym c.spells.ensures ∙ c.if-not-spells.false in
    (digit_at c.args.text.now good 0 (omega arith), digit_at c.args.text.now good 1 (omega arith))

pub returns-in-1 : goal.returns-in-1
unfolding kind_told
returns-in-1 c =
    let good = sym c.spells.ensures ∙ c.if-not-spells.false in
    sym (ap kind_told (some-writes c.args.text.now good (omega arith) (sym c.two_digits.ensures ∙ c.in-1.is) (omega arith)))

pub returns-in-2 : goal.returns-in-2
unfolding kind_told
returns-in-2 c =
    let s = c.args.text.now in
    let good = sym c.spells.ensures ∙ c.if-not-spells.false in
    c.then_some.ensures ∙ sym (screen-told s good (omega arith) (sym c.two_digits.ensures ∙ c.in-2.is))

pub returns-in_default : goal.returns-in_default
unfolding kind_told
returns-in_default c =
    let good = sym c.spells.ensures ∙ c.if-not-spells.false in
    let k = c.two_digits.ensures in
    sym (ap kind_told (other-kind c.args.text.now good (omega arith) (λ z. omega (arith, k ∙ z)) (λ z. omega (arith, k ∙ z))))
