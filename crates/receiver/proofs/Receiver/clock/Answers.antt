-- The test on the bit index is the definition's.
use mathlib.Core.Path.{◌∙◌}
use borrow.Author.Tests.{lt-ltb, le-ltb}
use Rattle.receiver.specs.Receive.{clocked}
use Rattle.receiver.proofs.Receiver.clock.Goals as goal

pub returns-then-self-lt128 : goal.returns-then-self-lt128
unfolding clocked
returns-then-self-lt128 c = c.quiet.ensures ∙ rw (c.data_bit.ensures, lt-ltb _ _ c.if-self-lt128.true)

pub returns-else-self-lt128 : goal.returns-else-self-lt128
unfolding clocked
returns-else-self-lt128 c = c.stop.ensures ∙ rw (le-ltb _ _ c.if-self-lt128.false)
