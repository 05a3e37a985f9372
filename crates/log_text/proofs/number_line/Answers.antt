-- `log_text::number_line` meets its contract: the digits, and LF behind them.
use Prim.Native.Nat.{ℕ, ◌+◌}
use mathlib.Core.Path.{ap, sym, ◌∙◌}
use native.Mathlib.Omega.{arith}
use Rattle.log_text.proofs.Printed.{length-number, number_put}
use Rattle.log_text.proofs.number_line.Goals as goal

pub returns : goal.returns
returns c =
    let start = c.args in
    let d = c.decimal-k in
    record { value = ap (λ (n : ℕ). n + 1) d.ensures.value ∙ sym (length-number start.number); upper_bound = omega arith; out_after = number_put start.number start.at d.result start.out.now _ (omega arith) d.ensures.value d.ensures.out_after }
