-- The refusals come first, then the worker answers.
use mathlib.Core.Path.{ap, ◌∙◌}
use borrow.Author.Tests.{lt-ltb, le-ltb, le-leb, lt-leb}
use Rattle.pulses.specs.Answer.{given, refused}
use Rattle.layout.specs.Block.{load}
use Rattle.block_picture.specs.Drawn.{parts_of, shade_in}
use Rattle.view.specs.Looks.{shade_answer}
use Rattle.view.proofs.Refusals.{refused_by, answers_of}
use Rattle.view.proofs.color_at.Goals as goal
use Rattle.view.proofs.color_at.Goals.{then-x-ge160-via-then-x-ge160, then-x-ge160-via-else-x-ge160+then-y-ge144, then-x-ge160-via-else-x-ge160+else-y-ge144+then-shade-gt3}

pub returns-in_err-block : goal.returns-in_err-block
unfolding shade_answer
returns-in_err-block c = refused_by _ _ _ c.from_residual.result c.in_err-block.field-0.0 c.in_err-block.ensures.err c.from_residual.ensures.1

pub returns-then-x-ge160 : goal.returns-then-x-ge160
unfolding shade_answer
returns-then-x-ge160 c =
    elim c.then-x-ge160.branch [
      | then-x-ge160-via-then-x-ge160 w ↦ rw (le-ltb _ 160 w.if-x-ge160.true) (answers_of _ _ (λ b. refused 4) c.in_ok-block.ensures.ok c.in_ok-block.block.valid)
      | then-x-ge160-via-else-x-ge160+then-y-ge144 w ↦ rw (lt-ltb _ 160 w.if-x-ge160.false, le-ltb _ 144 w.if-y-ge144.true) (answers_of _ _ (λ b. refused 4) c.in_ok-block.ensures.ok c.in_ok-block.block.valid)
      | then-x-ge160-via-else-x-ge160+else-y-ge144+then-shade-gt3 w ↦ rw (lt-ltb _ 160 w.if-x-ge160.false, lt-ltb _ 144 w.if-y-ge144.false, lt-leb _ 3 w.if-shade-gt3.true) (answers_of _ _ (λ b. refused 4) c.in_ok-block.ensures.ok c.in_ok-block.block.valid)
    ]

pub returns : goal.returns
unfolding shade_answer
returns c = ap given c.shade.ensures ∙ rw (lt-ltb _ 160 c.if-x-ge160.false, lt-ltb _ 144 c.if-y-ge144.false, le-leb _ 3 c.if-shade-gt3.false) (answers_of _ _ (λ b. given (shade_in (parts_of (load b)) c.args.x c.args.y c.args.shade)) c.in_ok-block.ensures.ok c.in_ok-block.block.valid)
