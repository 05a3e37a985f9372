-- It is byte 9 of the block, and a unit whose preset is there has 1 in it.
use mathlib.Core.Path.{ap}
use lib.Dec.{lit<}
use Rattle.layout.specs.Block.{is_set}
use Rattle.block_picture.specs.Drawn.{parts_of}
use Rattle.block_picture.proofs.Lent.{header-lent}
use Rattle.block_picture.proofs.of_block.ValidBlock.in_force.Goals as goal

pub returns : goal.returns
unfolding parts_of
returns c = ap is_set (header-lent c.args.self.bytes.now c.args.self.valid 9 (lit< tt))
