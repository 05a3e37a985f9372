-- Its tiles, and behind them nothing (`row_is`).
use native.Mathlib.Omega.{arith}
use Rattle.bits.proofs.Painting.{painted-length}
use Rattle.pages.proofs.Passes.{fours-fill, row_is}
use Rattle.pages.proofs.lay_row.Goals as goal

pub lay_fours-requires : goal.lay_fours-requires
lay_fours-requires c =
    let f = fours-fill c.args.y _ (omega arith) c.fours_in-f.ensures in
    record { page_len = omega arith; y_bound = (omega arith, (f.few, f.inside)) }

pub overflow_mul-f : goal.overflow_mul-f
overflow_mul-f c = omega (arith, (fours-fill c.args.y _ (omega arith) c.fours_in-f.ensures).few)

pub overflow_add-y : goal.overflow_add-y
overflow_add-y c = omega (arith, (fours-fill c.args.y _ (omega arith) c.fours_in-f.ensures).few)

pub overflow_mul-f-2 : goal.overflow_mul-f-2
overflow_mul-f-2 c = omega (arith, (fours-fill c.args.y _ (omega arith) c.fours_in-f.ensures).few)

pub overflow_sub-f : goal.overflow_sub-f
overflow_sub-f c = omega (arith, (fours-fill c.args.y _ (omega arith) c.fours_in-f.ensures).few)

pub blank-requires : goal.blank-requires
blank-requires c = omega (arith, (fours-fill c.args.y _ (omega arith) c.fours_in-f.ensures).few, painted-length c.lay_fours.ensures)

pub returns : goal.returns
returns c = row_is _ _ _ _ _ _ (omega arith) (fours-fill c.args.y _ (omega arith) c.fours_in-f.ensures) c.lay_fours.ensures c.blank.ensures
