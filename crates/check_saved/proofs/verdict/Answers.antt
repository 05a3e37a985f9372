-- The line at the front of the output goes out.
use Rattle.std.proofs.Common.{List, ℕ, is_ok, sym, ap, ◌∙◌, subst}
use Rattle.refusal.specs.Codes.{code_or_0}
use Rattle.bits.specs.Over.{over}
use Rattle.log_text.proofs.Printed.{text-lent}
use Rattle.log_writer.specs.Tally.{Sent}
use Rattle.check_saved.specs.Verdict.{verdict_line, check_text}
use Rattle.check_saved.proofs.verdict.Goals as goal

pub returns : goal.returns
unfolding check_text
returns c =
    let args = c.args in
    let h = c.verdict_line-n.ensures in
    let text = verdict_line (code_or_0 c.check.result) in
    let lent = text-lent text args.out.now _ c.verdict_line-n.result (sym h.value) (h.out_after ∙ ap (λ (m : ℕ). over 0 m text args.out.now) (sym h.value)) in
    subst (λ (l : List ℕ). Sent (is_ok c.write_out.result) args.printer.now.tally l c.write_out.new.printer.tally) (lent ∙ ap verdict_line c.check.ensures) c.write_out.ensures
