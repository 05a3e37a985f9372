-- The test and the mask are the definition's, the mask of three bits being the remainder by 8.
use borrow.Author.Tests.{le-leb, lt-leb}
use lib.Bits.{and_mask}
use Rattle.receiver.specs.Count.{code_of, count_of}
use Rattle.receiver.proofs.packet_count.Goals as goal

pub returns-then-first-ge30 : goal.returns-then-first-ge30
unfolding code_of count_of
returns-then-first-ge30 c = simp (le-leb 0x1E _ c.if-first-ge30.true)

pub returns-else-first-ge30 : goal.returns-else-first-ge30
unfolding code_of count_of
returns-else-first-ge30 c = simp (lt-leb 0x1E _ c.if-first-ge30.false) (and_mask _ 3)
