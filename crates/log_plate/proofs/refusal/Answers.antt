-- The line at the front of the output goes out.
use mathlib.Core.List.{List}
use mathlib.Core.Path.{sym, ap, ◌∙◌, subst}
use Prim.Native.Nat.{ℕ}
use Rattle.std.specs.Result.{is_ok}
use Rattle.bits.specs.Over.{over}
use Rattle.log_text.specs.Text.{refusal_text}
use Rattle.log_writer.specs.Tally.{Sent}
use Rattle.log_text.proofs.Printed.{text-lent}
use Rattle.log_plate.proofs.refusal.Goals as goal

pub returns : goal.returns
returns c =
    let args = c.args in
    let text = refusal_text args.number in
    let h = c.refusal_line-n.ensures in
    subst (λ (l : List ℕ). Sent (is_ok c.write_out.result) args.printer.now.tally l c.write_out.new.printer.tally) (text-lent text args.out.now _ c.refusal_line-n.result (sym h.value) (h.out_after ∙ ap (λ (m : ℕ). over 0 m text args.out.now) (sym h.value))) c.write_out.ensures
