-- Each return is the case of the definition that its tests leave.
use borrow.Author.Tests.{lt-ltb, le-ltb}
use Rattle.attribute_cells.specs.Chr.{next}
use Rattle.attribute_cells.proofs.Spot.next.Goals as goal

pub returns-then-x-lt20 : goal.returns-then-x-lt20
unfolding next
returns-then-x-lt20 c = simp (c.if-along.true, lt-ltb _ _ c.if-x-lt20.true)

pub returns-else-x-lt20 : goal.returns-else-x-lt20
unfolding next
returns-else-x-lt20 c = simp (c.if-along.true, le-ltb _ _ c.if-x-lt20.false)

pub returns-then-y-lt18 : goal.returns-then-y-lt18
unfolding next
returns-then-y-lt18 c = simp (c.if-along.false, lt-ltb _ _ c.if-y-lt18.true)

pub returns-else-y-lt18 : goal.returns-else-y-lt18
unfolding next
returns-else-y-lt18 c = simp (c.if-along.false, le-ltb _ _ c.if-y-lt18.false)
