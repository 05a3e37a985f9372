-- The refusals come first, then the worker answers.
use mathlib.Core.Path.{ap, ◌∙◌}
use Rattle.pulses.specs.Answer.{given}
use Rattle.layout.specs.Block.{load}
use Rattle.block_picture.specs.Drawn.{parts_of, backdrop_in}
use Rattle.view.specs.Looks.{backdrop_answer}
use Rattle.view.proofs.Refusals.{refused_by, answers_of}
use Rattle.view.proofs.backdrop.Goals as goal

pub returns-in_err-block : goal.returns-in_err-block
unfolding backdrop_answer
returns-in_err-block c = refused_by _ _ _ c.from_residual.result c.in_err-block.field-0.0 c.in_err-block.ensures.err c.from_residual.ensures.1

pub returns : goal.returns
unfolding backdrop_answer
returns c = ap given c.backdrop.ensures ∙ answers_of _ _ (λ b. given (backdrop_in (parts_of (load b)))) c.in_ok-block.ensures.ok c.in_ok-block.block.valid
