-- It is byte 0 of the block.
use lib.Dec.{lit<}
use Rattle.block_picture.specs.Drawn.{parts_of}
use Rattle.block_picture.proofs.Lent.{header-lent}
use Rattle.block_picture.proofs.of_block.ValidBlock.mode.Goals as goal

pub returns : goal.returns
unfolding parts_of
returns c = header-lent c.args.self.bytes.now c.args.self.valid 0 (lit< tt)
