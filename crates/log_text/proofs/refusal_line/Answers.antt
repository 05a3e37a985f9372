-- `log_text::refusal_line` meets its contract: three parts, each behind the one before it.
use Prim.Native.Nat.{ℕ, ◌+◌}
use mathlib.Core.Path.{ap, sym, ◌∙◌}
use native.Mathlib.Omega.{arith}
use Rattle.bits.specs.Over.{over}
use Rattle.log_text.specs.Text.{decimal_text, refusal_text}
use Rattle.log_text.proofs.Printed.{tail, length-refusal, refusal_put}
use Rattle.log_text.proofs.refusal_line.Goals as goal

pub returns : goal.returns
unfolding refusal_text
returns c =
    let start = c.args in
    let d = decimal_text start.number in
    let first = c.put.ensures in
    let second = c.decimal-n in
    let long = second.ensures.value in
    let third = c.put-2.ensures ∙ ap (λ (n : ℕ). over (start.at + 5 + n) 4 tail second.new.out) long in
    record { value = ap (λ (n : ℕ). n + 9) long ∙ sym (length-refusal d); upper_bound = omega arith; out_after = refusal_put d start.out.now _ _ _ start.at (omega arith) first second.ensures.out_after third }
