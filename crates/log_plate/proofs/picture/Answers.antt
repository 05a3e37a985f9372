-- The tables are those of the block's picture.
use borrow.Author.Rules.{rules}
use Rattle.log_plate.proofs.picture.Goals as goal

pub rows-requires : goal.rows-requires
rows-requires c = record { valid = c.requires.valid; tables_of = c.tables.ensures; words_len = (search rules, c.requires.out_len) }

pub returns : goal.returns
returns c = c.rows.ensures
