-- `unit::new` meets its contract: another length is refused, and else the worker makes the block.
use Rattle.unit.proofs.Calling.{new-refused, new_made}
use Rattle.bits.proofs.Named.{as-value-block_after}
use Rattle.unit.proofs.new.Goals as goal

pub returns-then-block-ne-BLOCK : goal.returns-then-block-ne-BLOCK
returns-then-block-ne-BLOCK c = as-value-block_after (new-refused _ c.if-block-ne-BLOCK.true)

pub returns : goal.returns
returns c = as-value-block_after (new_made _ _ c.if-block-ne-BLOCK.false c.new.ensures)
