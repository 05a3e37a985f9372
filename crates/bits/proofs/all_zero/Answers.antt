-- `bits::all_zero` meets its contract: what is left of it is whether what was joined so far is zero, and the rest of the list.
use mathlib.Core.Path.{refl, sym, ◌∙◌}
use native.Mathlib.Omega.{arith}
use Rattle.bits.proofs.Zeros.{zeros_turn, zeros_end}
use Rattle.bits.proofs.all_zero.Goals as goal

pub loop-b-init : goal.loop-b-init
loop-b-init c = refl

pub loop-b-preserved : goal.loop-b-preserved
loop-b-preserved c = let a = c.loop-b in
    a.invariant ∙ zeros_turn c.args.s.now a.b-index a.all (omega arith)

pub returns : goal.returns
returns c = let a = c.loop-b in
    sym (a.invariant ∙ zeros_end c.args.s.now a.b-index a.all (omega arith))
