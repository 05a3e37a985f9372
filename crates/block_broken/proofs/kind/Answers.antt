-- By the countdown.
use borrow.Author.Tests.{eq-eqb, ne_eqb}
use Rattle.block_broken.proofs.kind.Goals as goal

pub returns-then-front-eq0 : goal.returns-then-front-eq0
returns-then-front-eq0 c = rw (eq-eqb _ _ c.if-front-eq0.true) c.zero_at.ensures

pub returns : goal.returns
returns c = rw (ne_eqb _ _ c.if-front-eq0.false) c.at_most.ensures
