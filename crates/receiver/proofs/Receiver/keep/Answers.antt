-- The test is the definition's, and each arm is its record.
use borrow.Author.Tests.{le-leb, lt-leb}
use Rattle.receiver.specs.Receive.{kept}
use Rattle.receiver.proofs.Receiver.keep.Goals as goal

pub returns-then-so_far-expected : goal.returns-then-so_far-expected
unfolding kept
returns-then-so_far-expected c = rw (c.new.ensures, le-leb _ _ c.if-so_far-expected.true)

pub returns-else-so_far-expected : goal.returns-else-so_far-expected
unfolding kept
returns-else-so_far-expected c = rw (lt-leb _ _ c.if-so_far-expected.false)
