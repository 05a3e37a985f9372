-- The parts lent are the unit's, so the row drawn from its tables is the unit's (`row_is`).
use Rattle.picture.proofs.Whole.{tables-are, row_is}
use Rattle.layout.specs.Block.{load}
use Rattle.block_picture.specs.Drawn.{parts_of, row_drawn}
use Rattle.block_picture.proofs.row_from.Goals as goal

pub row-requires-clause-tables : goal.row-requires-clause-tables
row-requires-clause-tables c = tables-are _ _ _ _ c.requires.tables_of

pub returns : goal.returns
unfolding row_drawn
returns c =
    let d = c.drawn.ensures in
    row_is (parts_of (load c.args.block.bytes.now)) _ _ _ c.requires.tables_of d.of_border.0 d.of_border.1 d.of_screen.0 d.of_screen.1
    c.args.y _ _ c.row.ensures c.requires.y_bound.1
