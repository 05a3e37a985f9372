-- By the refusal.
use borrow.Author.Rules.{rules}
use Rattle.std.proofs.Common.{◌∙◌, arith}
use Rattle.check_saved.proofs.Lines.{placed-told, number-told}
use Rattle.bits.proofs.Named.{as-value-upper_bound-out_after}
use Rattle.check_saved.proofs.refusal_line.Goals as goal

pub returns-in-Broken : goal.returns-in-Broken
returns-in-Broken c =
    let is = placed-told c.args.refusal c.in-Broken.field-0 c.in-Broken.at c.from-number.result c.from.result c.in-Broken.is (c.from-number.ensures ∙ c.number.ensures) c.from.ensures in
    let line = c.placed_line.ensures in
    as-value-upper_bound-out_after (rw is (line.value, (line.upper_bound, line.out_after)))

pub returns-in_default : goal.returns-in_default
returns-in_default c =
    let is = number-told c.args.refusal c.from-number.result (search rules) (c.from-number.ensures ∙ c.number.ensures) in
    let line = c.number_line.ensures in
    as-value-upper_bound-out_after (rw is (line.value, (omega (arith, line.upper_bound), line.out_after)))
