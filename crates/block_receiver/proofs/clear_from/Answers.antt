-- By the word that the bit index points into: past it nothing is left after a shift.
use native.Mathlib.Omega.{arith}
use Rattle.block_receiver.proofs.Bytes.{clear-high, clear-low}
use Rattle.block_receiver.proofs.clear_from.Goals as goal

pub returns-then-hi-eq0 : goal.returns-then-hi-eq0
returns-then-hi-eq0 c = clear-low c.args.lo c.args.hi c.args.bits c.if-hi-eq0.true

pub returns-in-64-to-127 : goal.returns-in-64-to-127
returns-in-64-to-127 c = clear-high c.args.lo c.args.hi c.args.bits (omega arith) (omega arith)
