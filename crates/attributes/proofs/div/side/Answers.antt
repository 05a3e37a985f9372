-- Each return is the case of the definition that its tests leave.
use native.Mathlib.Nat.{div-one}
use borrow.Author.Tests.{lt-ltb, le-ltb, eq-eqb, ne_eqb}
use Rattle.bits.proofs.Masks.{pair-mask}
use Rattle.attributes.specs.Div.{side_of}
use Rattle.attributes.proofs.div.side.Goals as goal

pub returns-then-p-at : goal.returns-then-p-at
unfolding side_of
returns-then-p-at c = simp (lt-ltb _ _ c.if-p-at.true, pair-mask)

pub returns-then-p-at-2 : goal.returns-then-p-at-2
unfolding side_of
returns-then-p-at-2 c = simp (le-ltb _ _ c.if-p-at.false, eq-eqb _ _ c.if-p-at-2.true, pair-mask)

pub returns-else-p-at-2 : goal.returns-else-p-at-2
unfolding side_of
returns-else-p-at-2 c = simp (le-ltb _ _ c.if-p-at.false, ne_eqb _ _ c.if-p-at-2.false, pair-mask, div-one)
