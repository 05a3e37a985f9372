-- Either arm is the definition's.
use borrow.Author.Tests.{eq-eqb, ne_eqb}
use native.Mathlib.Omega.{arith}
use Rattle.state_out.proofs.bit.Goals as goal

pub returns-then-on-eq1 : goal.returns-then-on-eq1
returns-then-on-eq1 c = (rw (eq-eqb _ _ c.if-on-eq1.true), omega arith)

pub returns-else-on-eq1 : goal.returns-else-on-eq1
returns-else-on-eq1 c = (rw (ne_eqb _ _ c.if-on-eq1.false), omega arith)
