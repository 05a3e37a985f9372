-- Both lines and the index, each by its own rule.
use Rattle.receiver_polling.specs.Passing.{lines_after}
use Rattle.receiver_polling.proofs.after.Goals as goal

pub returns : goal.returns
unfolding lines_after
returns c = rw (c.p15_high.ensures, c.both_high.ensures, c.index_after.ensures)
