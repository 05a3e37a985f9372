-- It is part 5 of the block.
use lib.Dec.{lit<, lit≤}
use Rattle.block_picture.specs.Drawn.{parts_of}
use Rattle.block_picture.proofs.Lent.{lent}
use Rattle.block_picture.proofs.of_block.ValidBlock.attributes.Goals as goal

pub returns : goal.returns
unfolding parts_of
returns c = lent c.args.self.bytes.now c.args.self.valid 5 (lit< tt) (lit≤ tt)
