-- The text is what `&out[0..n]` lends.
use Prim.Native.Nat.{ℕ}
use mathlib.Core.List.{List}
use mathlib.Core.Path.{sym, ap, ◌∙◌, subst}
use Rattle.std.specs.Result.{is_ok}
use Rattle.bits.specs.Over.{over}
use Rattle.log_text.proofs.Printed.{text-lent}
use Rattle.log_writer.specs.Tally.{Sent}
use Rattle.pages_drawn.specs.Graymap.{page_text}
use Rattle.pages_drawn.proofs.tell.Goals as goal

pub returns : goal.returns
returns c =
    let args = c.args in
    let made = c.text-n in
    let due = page_text args.came.now in
    let size = sym made.ensures.value in
    let lent = text-lent due args.out.now _ made.result size (made.ensures.out_after ∙ ap (λ (m : ℕ). over 0 m due args.out.now) size) in
    subst (λ (l : List ℕ). Sent (is_ok c.write_out.result) args.printer.now.tally l c.write_out.new.printer.tally) lent c.write_out.ensures
