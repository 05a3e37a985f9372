-- The words are the row's, and the text is that of the words.
use native.Mathlib.Omega.{arith}
use Rattle.log_chunks.proofs.Coded.{row_words, row_text, row-long}
use Rattle.log_chunks.proofs.row_line.Goals as goal

pub row_from-requires : goal.row_from-requires
row_from-requires c =
    let p = c.requires in
    record { tables_of = p.tables_of; y_bound = (p.valid.1, omega (arith, p.words_len.0)) }

pub returns : goal.returns
returns c =
    let start = c in
    let b = start.args.block.now in
    let w = row_words b start.args.y start.args.words.now _ start.requires.words_len.0 c.row_from.ensures in
    record { words_after = w; out_after = row_text _ _ start.args.out.now _ w (row-long b start.args.y) c.row_line.ensures }
