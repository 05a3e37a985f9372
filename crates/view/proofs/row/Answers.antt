-- The refusals come first and leave the output, then the worker draws.
use mathlib.Core.Path.{ap, ◌∙◌}
use borrow.Author.Tests.{lt-ltb, le-ltb, le-leb, lt-leb}
use Rattle.pulses.specs.Answer.{given, refused}
use Rattle.block_picture.specs.Drawn.{row_drawn}
use Rattle.view.specs.Looks.{row_answer}
use Rattle.view.proofs.Refusals.{refused-keeps, answers_of, keeps, draws}
use Rattle.bits.proofs.Named.{as-result_value-out_after}
use Rattle.view.proofs.row.Goals as goal

pub returns-in_err-block : goal.returns-in_err-block
unfolding row_answer
returns-in_err-block c = as-result_value-out_after (refused-keeps _ _ _ _ _ c.from_residual.result c.in_err-block.field-0.0 c.in_err-block.ensures.err c.from_residual.ensures.1)

pub returns-then-y-ge224 : goal.returns-then-y-ge224
unfolding row_answer
returns-then-y-ge224 c = as-result_value-out_after (keeps _ _ _ (rw (le-ltb _ 224 c.if-y-ge224.true) (answers_of _ _ (λ b. refused 4) c.in_ok-block.ensures.ok c.in_ok-block.block.valid)))

pub returns-then-out-lt256 : goal.returns-then-out-lt256
unfolding row_answer
returns-then-out-lt256 c = as-result_value-out_after (keeps _ _ _ (rw (lt-ltb _ 224 c.if-y-ge224.false, lt-leb 256 _ c.if-out-lt256.true) (answers_of _ _ (λ b. refused 6) c.in_ok-block.ensures.ok c.in_ok-block.block.valid)))

pub returns : goal.returns
unfolding row_answer
returns c = as-result_value-out_after (draws _ _ _ _ (rw (lt-ltb _ 224 c.if-y-ge224.false, le-leb 256 _ c.if-out-lt256.false) (answers_of _ _ (λ b. given 256) c.in_ok-block.ensures.ok c.in_ok-block.block.valid)) (c.draw_row.ensures ∙ ap (λ b. row_drawn b c.args.y c.args.out.now) c.in_ok-block.ensures.ok))
