-- Both captures have their size, so the one that the mode says is shown.
use Rattle.block_picture.proofs.Lent.{shown-lent}
use Rattle.block_picture.proofs.of_block.ValidBlock.shown.Goals as goal

pub returns : goal.returns
returns c = shown-lent c.args.self.bytes.now c.args.self.valid _ _ c.mode.ensures c.displayed_screen.ensures
