-- `unit::update_screen` meets its contract: the refusals in their order, and else the worker.
use mathlib.Core.Path.{refl}
use Rattle.view.proofs.Refusals.{refused-keeps, accepts}
use Rattle.unit.specs.Calls.{screen_answer, screen_block}
use Rattle.unit.proofs.Calling.{screen-refused, screen-short, screen-given}
use Rattle.bits.proofs.Named.{as-result_value-block_after}
use Rattle.unit.proofs.update_screen.Goals as goal

pub returns-in_err-check : goal.returns-in_err-check
unfolding screen_answer screen_block
returns-in_err-check c = as-result_value-block_after (refused-keeps _ _ _ _ _ c.from_residual.result c.in_err-check.field-0.0 c.in_err-check.ensures c.from_residual.ensures.1)

pub returns-then-screen-ne-CAPTURE_BYTES : goal.returns-then-screen-ne-CAPTURE_BYTES
returns-then-screen-ne-CAPTURE_BYTES c =
    let start = c.args in
    as-result_value-block_after (screen-refused start.block.now start.screen.now 3
    (screen-short start.block.now start.screen.now (accepts _ 0 c.in_ok-check.ensures refl) c.if-screen-ne-CAPTURE_BYTES.true))

pub show-requires : goal.show-requires
show-requires c = (accepts _ 0 c.in_ok-check.ensures refl, c.if-screen-ne-CAPTURE_BYTES.false)

pub returns : goal.returns
returns c =
    let start = c.args in
    let s = c.show in
    as-result_value-block_after (screen-given start.block.now start.screen.now _ _ (accepts _ 0 c.in_ok-check.ensures refl) c.if-screen-ne-CAPTURE_BYTES.false s.ensures.0 s.ensures.1)
