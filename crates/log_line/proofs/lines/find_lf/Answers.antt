-- Each stride that goes by has no LF.
use mathlib.Core.Path.{refl, sym, ◌∙◌}
use native.Mathlib.Omega.{arith}
use Rattle.log_line.proofs.Splitting.{lf-from}
use borrow.Author.Rules.{rules}
use Rattle.log_line.proofs.lines.find_lf.Goals as goal

pub loop-i-init : goal.loop-i-init
loop-i-init c = (search rules, refl)

pub overflow_add-i : goal.overflow_add-i
overflow_add-i c = omega (arith, (c.is_clear.ensures c.loop-i-test.true).0)

pub loop-i-smaller : goal.loop-i-smaller
loop-i-smaller c = omega (arith, (c.is_clear.ensures c.loop-i-test.true).0)

pub loop-i-preserved : goal.loop-i-preserved
loop-i-preserved c =
    let k = c.is_clear.ensures c.loop-i-test.true in
    (k.0, c.loop-i.invariant.1 ∙ k.1)

pub returns : goal.returns
returns c =
    let e = c.find.ensures.value ∙ sym c.loop-i.invariant.1 in
    record { value = e; lower_bound = (omega (arith, e, lf-from c.args.chunk.now c.args.at), c.find.ensures.lower_bound.1) }
