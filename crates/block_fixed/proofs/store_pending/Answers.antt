-- Each of the two bytes is what its call answers.
use Rattle.block_fixed.proofs.store_pending.Goals as goal

pub returns : goal.returns
returns c = rw (c.countdown.ensures, c.kind.ensures)
