-- By whether the chunk holds more.
use Rattle.log_reading.proofs.Left.{is-chunk, is-pending}
use Rattle.log_reading.proofs.is_left.Goals as goal

pub returns-then-at-size : goal.returns-then-at-size
returns-then-at-size c = is-chunk c.args.reading c.args.size c.args.at c.if-at-size.true

pub returns-else-at-size : goal.returns-else-at-size
returns-else-at-size c = is-pending c.args.reading c.args.size c.args.at c.if-at-size.false
