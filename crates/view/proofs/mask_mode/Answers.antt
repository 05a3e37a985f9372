-- The refusals come first, then the worker answers.
use mathlib.Core.Path.{ap, ◌∙◌}
use Rattle.pulses.specs.Answer.{given}
use Rattle.layout.specs.Block.{load}
use Rattle.block_picture.specs.Drawn.{parts_of}
use Rattle.view.specs.Looks.{mode_of}
use Rattle.view.proofs.Refusals.{refused_by, answers_of}
use Rattle.view.proofs.mask_mode.Goals as goal

pub returns-in_err-block : goal.returns-in_err-block
unfolding mode_of
returns-in_err-block c = refused_by _ _ _ c.from_residual.result c.in_err-block.field-0.0 c.in_err-block.ensures.err c.from_residual.ensures.1

pub returns : goal.returns
unfolding mode_of
returns c = ap given (c.from.ensures ∙ c.mode.ensures) ∙ answers_of _ _ (λ b. given (parts_of (load b)).mode) c.in_ok-block.ensures.ok c.in_ok-block.block.valid
