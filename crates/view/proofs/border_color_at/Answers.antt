-- The refusals come first, then the worker answers.
use mathlib.Core.Path.{ap, ◌∙◌}
use borrow.Author.Tests.{lt-ltb, le-ltb}
use Rattle.pulses.specs.Answer.{given, refused}
use Rattle.layout.specs.Block.{load}
use Rattle.block_picture.specs.Drawn.{parts_of, border_in}
use Rattle.view.specs.Looks.{border_answer}
use Rattle.view.proofs.Refusals.{refused_by, answers_of}
use Rattle.view.proofs.border_color_at.Goals as goal
use Rattle.view.proofs.border_color_at.Goals.{then-x-ge256-via-then-x-ge256, then-x-ge256-via-else-x-ge256+then-y-ge224}

pub returns-in_err-block : goal.returns-in_err-block
unfolding border_answer
returns-in_err-block c = refused_by _ _ _ c.from_residual.result c.in_err-block.field-0.0 c.in_err-block.ensures.err c.from_residual.ensures.1

pub returns-then-x-ge256 : goal.returns-then-x-ge256
unfolding border_answer
returns-then-x-ge256 c =
    elim c.then-x-ge256.branch [
      | then-x-ge256-via-then-x-ge256 w ↦ rw (le-ltb _ 256 w.if-x-ge256.true) (answers_of _ _ (λ b. refused 4) c.in_ok-block.ensures.ok c.in_ok-block.block.valid)
      | then-x-ge256-via-else-x-ge256+then-y-ge224 w ↦ rw (lt-ltb _ 256 w.if-x-ge256.false, le-ltb _ 224 w.if-y-ge224.true) (answers_of _ _ (λ b. refused 4) c.in_ok-block.ensures.ok c.in_ok-block.block.valid)
    ]

pub returns : goal.returns
unfolding border_answer
returns c = ap given c.border.ensures ∙ rw (lt-ltb _ 256 c.if-x-ge256.false, lt-ltb _ 224 c.if-y-ge224.false) (answers_of _ _ (λ b. given (border_in (parts_of (load b)) c.args.x c.args.y)) c.in_ok-block.ensures.ok c.in_ok-block.block.valid)
