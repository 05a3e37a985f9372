-- Each byte that goes by is no LF.
use mathlib.Core.Path.{sym, ◌∙◌}
use native.Mathlib.Omega.{arith}
use borrow.Author.Tests.{eq-eqb, ne_eqb}
use Rattle.log_line.proofs.Splitting.{lf_past, lf_here, lf_end}
use Rattle.log_line.proofs.lines.find.Goals as goal

pub loop-i-preserved : goal.loop-i-preserved
loop-i-preserved c = c.loop-i.invariant ∙ lf_past c.args.chunk.now c.loop-i.i c.loop-i-test.true (ne_eqb _ 10 c.if-chunk-i-eq10.false)

pub returns-then-chunk-i-eq10-clause-value : goal.returns-then-chunk-i-eq10-clause-value
returns-then-chunk-i-eq10-clause-value c =
    sym (c.loop-i.invariant ∙ lf_here c.args.chunk.now c.loop-i.i c.loop-i-test.true (eq-eqb _ 10 c.if-chunk-i-eq10.true))

pub returns-clause-value : goal.returns-clause-value
returns-clause-value c =
    let s = c.args.chunk.now in
    let i = c.loop-i.i in
    omega (arith, c.loop-i.invariant ∙ lf_end s i c.loop-i-test.false)
