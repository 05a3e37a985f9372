-- `log_text::decimal` meets its contract: the digits are the number's, and at most twenty.
use Prim.Native.Nat.{ℕ, ◌-◌, ◌≤◌}
use mathlib.Core.List.{List}
use mathlib.Core.Path.{◌≡◌, ap, sym, ◌∙◌}
use native.Mathlib.Omega.{arith}
use native.Mathlib.Nat.{sub-zero}
use lib.ListN.{length, take, length-take}
use Rattle.bits.specs.Over.{over}
use Rattle.log_text.specs.Text.{decimal_text}
use Rattle.log_text.proofs.Decimals.{not_more, decimal_found}
use Rattle.log_text.proofs.decimal.Goals as goal

pub put-requires : goal.put-requires
put-requires c =
    let d = c.decimal-k in
    let m : d.result ≤ 20 = not_more c.args.number 20 d.result (omega arith) (omega arith) d.ensures.len in
    simp length-take (omega arith)

pub returns : goal.returns
returns c =
    let d = c.decimal-k in
    let args = c.args in
    let m : d.result ≤ 20 = not_more args.number 20 d.result (omega arith) (omega arith) d.ensures.len in
    let z : d.result - 0 ≡ d.result = sub-zero d.result in
    let e : take (d.result - 0) d.new.out ≡ decimal_text args.number = decimal_found args.number d.result _ m d.ensures.len (rw z d.ensures.digits) in
    let long : d.result ≡ length (decimal_text args.number) = d.ensures.in_bounds.1 ∙ ap (λ (k : ℕ). length (take k d.new.out)) (sym z) ∙ ap length e in
    record { value = long; upper_bound = m; out_after = c.put.ensures ∙ ap (λ (l : List ℕ). over args.at (length l) l args.out.now) e }
