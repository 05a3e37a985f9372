-- Four parts, each behind the one before it.
use Prim.Native.Nat.{ℕ, ◌+◌}
use mathlib.Core.Path.{ap₂, sym, ◌∙◌}
use native.Mathlib.Omega.{arith}
use Rattle.check_saved.proofs.Lines.{length-placed, placed-put}
use Rattle.check_saved.proofs.placed_line.Goals as goal

pub returns : goal.returns
returns c =
    let args = c.args in
    let first = c.decimal-n in
    let second = c.decimal-k in
    let long = ap₂ (λ (n k : ℕ). n + 5 + k) first.ensures.value second.ensures.value in
    record {
      value = long ∙ sym (length-placed args.number args.offset);
      upper_bound = omega arith;
      out_after = placed-put args.number args.offset first.result second.result args.out.now _ _ _ _ first.ensures.value second.ensures.value
          first.ensures.out_after c.put.ensures second.ensures.out_after c.put-2.ensures;
    }
