-- The parts lent are the unit's.
use Rattle.picture.proofs.Whole.{tables_of}
use Rattle.layout.specs.Block.{load}
use Rattle.block_picture.specs.Drawn.{parts_of}
use Rattle.block_picture.proofs.tables.Goals as goal

pub returns : goal.returns
returns c =
    tables_of (parts_of (load c.args.block.bytes.now)) c.colours.ensures.of_palettes.0 c.colours.ensures.of_palettes.1 c.colours.ensures.of_byte c.mode.ensures c.borders.ensures.0
    c.tables.ensures.spreads_after c.tables.ensures.border_after c.tables.ensures.game_after
