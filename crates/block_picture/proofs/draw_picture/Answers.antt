-- The parts lent are the unit's, so the picture drawn from its tables is the unit's (`picture-is`).
use Rattle.picture.proofs.Whole.{tables-are, picture-is}
use Rattle.layout.specs.Block.{load}
use Rattle.block_picture.specs.Drawn.{parts_of, picture_drawn}
use Rattle.block_picture.proofs.draw_picture.Goals as goal

pub picture-requires-clause-tables : goal.picture-requires-clause-tables
picture-requires-clause-tables c = tables-are _ _ _ _ c.tables.ensures

pub returns : goal.returns
unfolding picture_drawn
returns c =
    let d = c.drawn.ensures in
    picture-is (parts_of (load c.args.block.bytes.now)) _ _ _ c.tables.ensures d.of_border.0 d.of_border.1 d.of_screen.0 d.of_screen.1
    _ _ c.picture.ensures c.requires.in_bounds
