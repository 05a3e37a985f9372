-- The refusals come first and leave the output, then the worker draws.
use mathlib.Core.Path.{ap, ◌∙◌}
use borrow.Author.Tests.{le-leb, lt-leb}
use Rattle.pulses.specs.Answer.{given, refused}
use Rattle.block_picture.specs.Drawn.{picture_drawn}
use Rattle.view.specs.Looks.{picture_answer}
use Rattle.view.proofs.Refusals.{refused-keeps, answers_of, keeps, draws}
use Rattle.bits.proofs.Named.{as-result_value-out_after}
use Rattle.view.proofs.picture.Goals as goal

pub returns-in_err-block : goal.returns-in_err-block
unfolding picture_answer
returns-in_err-block c = as-result_value-out_after (refused-keeps _ _ _ _ _ c.from_residual.result c.in_err-block.field-0.0 c.in_err-block.ensures.err c.from_residual.ensures.1)

pub returns-then-out-lt57344 : goal.returns-then-out-lt57344
unfolding picture_answer
returns-then-out-lt57344 c = as-result_value-out_after (keeps _ _ _ (rw (lt-leb 57344 _ c.if-out-lt57344.true) (answers_of _ _ (λ b. refused 6) c.in_ok-block.ensures.ok c.in_ok-block.block.valid)))

pub returns : goal.returns
unfolding picture_answer
returns c = as-result_value-out_after (draws _ _ _ _ (rw (le-leb 57344 _ c.if-out-lt57344.false) (answers_of _ _ (λ b. given 57344) c.in_ok-block.ensures.ok c.in_ok-block.block.valid)) (c.draw_picture.ensures ∙ ap (λ b. picture_drawn b c.args.out.now) c.in_ok-block.ensures.ok))
