-- The refusals come first, then the worker answers.
use mathlib.Core.Path.{ap, ◌∙◌}
use borrow.Author.Tests.{lt-ltb, le-ltb}
use Rattle.pulses.specs.Answer.{given, refused}
use Rattle.border.specs.Border.{entry_at}
use Rattle.layout.specs.Block.{load}
use Rattle.block_picture.specs.Drawn.{parts_of}
use Rattle.view.specs.Looks.{entry_answer}
use Rattle.view.proofs.Refusals.{refused_by, answers_of}
use Rattle.view.proofs.map_entry.Goals as goal
use Rattle.view.proofs.map_entry.Goals.{then-column-ge32-via-then-column-ge32, then-column-ge32-via-else-column-ge32+then-row-ge28}

pub returns-in_err-block : goal.returns-in_err-block
unfolding entry_answer
returns-in_err-block c = refused_by _ _ _ c.from_residual.result c.in_err-block.field-0.0 c.in_err-block.ensures.err c.from_residual.ensures.1

pub returns-then-column-ge32 : goal.returns-then-column-ge32
unfolding entry_answer
returns-then-column-ge32 c =
    elim c.then-column-ge32.branch [
      | then-column-ge32-via-then-column-ge32 w ↦ rw (le-ltb _ 32 w.if-column-ge32.true) (answers_of _ _ (λ b. refused 4) c.in_ok-block.ensures.ok c.in_ok-block.block.valid)
      | then-column-ge32-via-else-column-ge32+then-row-ge28 w ↦ rw (lt-ltb _ 32 w.if-column-ge32.false, le-ltb _ 28 w.if-row-ge28.true) (answers_of _ _ (λ b. refused 4) c.in_ok-block.ensures.ok c.in_ok-block.block.valid)
    ]

pub returns : goal.returns
unfolding entry_answer
returns c = ap given c.entry.ensures ∙ rw (lt-ltb _ 32 c.if-column-ge32.false, lt-ltb _ 28 c.if-row-ge28.false) (answers_of _ _ (λ b. given (entry_at (parts_of (load b)).map c.args.column c.args.row)) c.in_ok-block.ensures.ok c.in_ok-block.block.valid)
