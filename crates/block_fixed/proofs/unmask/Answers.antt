-- The mode is zero if bit 6 is set, and else the block stays.
use Rattle.bits.proofs.Masks.{bit-set, bit-clear}
use Rattle.block_fixed.proofs.Carried.{unmasked, still-masked}
use Rattle.block_fixed.proofs.unmask.Goals as goal

pub returns-then-flags-ne0 : goal.returns-then-flags-ne0
returns-then-flags-ne0 c = unmasked _ c.requires _ (bit-set c.args.flags 6 c.if-flags-ne0.true)

pub returns-else-flags-ne0 : goal.returns-else-flags-ne0
returns-else-flags-ne0 c = still-masked _ c.requires _ (bit-clear c.args.flags 6 c.if-flags-ne0.false)
