-- The line at the front of the output goes out.
use mathlib.Core.List.{List}
use mathlib.Core.Path.{sym, ap, ◌∙◌, subst}
use Prim.Native.Nat.{ℕ}
use Rattle.std.specs.Result.{is_ok}
use Rattle.bits.specs.Over.{over}
use Rattle.log_chunks.specs.Texts.{head_line}
use Rattle.log_writer.specs.Tally.{Sent}
use Rattle.log_text.proofs.Printed.{text-lent}
use Rattle.log_replay.proofs.head.Goals as goal

pub returns : goal.returns
returns c =
    let args = c.args in
    let block = args.block.now in
    let h = c.head_line-n.ensures in
    let n = h.value.0 in
    subst (λ (l : List ℕ). Sent (is_ok c.write_out.result) args.printer.now.tally l c.write_out.new.printer.tally) (text-lent (head_line block) args.out.now _ c.head_line-n.result (sym n) (h.out_after ∙ ap (λ (m : ℕ). over 0 m (head_line block) args.out.now) (sym n))) c.write_out.ensures
