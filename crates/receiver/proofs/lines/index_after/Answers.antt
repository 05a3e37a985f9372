-- Each test decides the definition's.
use mathlib.Core.Logic.{inl, inr}
use Rattle.bits.proofs.Masks.{bit-set, bit-clear}
use Rattle.receiver.specs.Lines.{p15_high, indexed}
use Rattle.receiver.proofs.lines.index_after.Goals as goal

pub returns-then-was : goal.returns-then-was
unfolding p15_high indexed
returns-then-was c = elim c.if-was.either [ inl e ↦ rw (bit-clear c.args.value 5 e) | inr (h, e) ↦ rw (bit-set c.args.value 5 h, e) ]

pub returns-else-was : goal.returns-else-was
unfolding p15_high indexed
returns-else-was c = rw (bit-set c.args.value 5 c.if-was.false.0, c.if-was.false.1)
