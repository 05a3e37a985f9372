-- The refusals in their order, and else the rules.
use mathlib.Core.Path.{sym, ◌∙◌}
use Rattle.bits.proofs.Named.{as-result_value-block_after}
use Rattle.state_spans.specs.Told.{state_told}
use Rattle.state.proofs.Answers.{another-length, misfit, over-three, by-the-rules}
use Rattle.state.proofs.from_state.Goals as goal

pub returns-then-block-ne-BLOCK : goal.returns-then-block-ne-BLOCK
returns-then-block-ne-BLOCK c = as-result_value-block_after (another-length c.args.block.now (state_told c.args.spans.now) c.if-block-ne-BLOCK.true)

pub returns-then-not-fits : goal.returns-then-not-fits
returns-then-not-fits c = as-result_value-block_after (misfit c.args.block.now (state_told c.args.spans.now) c.if-block-ne-BLOCK.false (sym c.fits.ensures ∙ c.if-not-fits.true))

pub returns-then-not-cells_fit : goal.returns-then-not-cells_fit
returns-then-not-cells_fit c =
    as-result_value-block_after (over-three c.args.block.now (state_told c.args.spans.now) c.if-block-ne-BLOCK.false (sym c.fits.ensures ∙ c.if-not-fits.false) (sym c.cells_fit.ensures ∙ c.if-not-cells_fit.true))

pub returns : goal.returns
returns c =
    as-result_value-block_after
    (by-the-rules c.args.block.now (state_told c.args.spans.now) c.if-block-ne-BLOCK.false (sym c.fits.ensures ∙ c.if-not-fits.false)
    (sym c.cells_fit.ensures ∙ c.if-not-cells_fit.false) _ _ c.take_in.ensures.result_value c.take_in.ensures.block_after)
