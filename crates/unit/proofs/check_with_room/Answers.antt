-- The block's own refusals, and then that of the room.
use mathlib.Core.Path.{refl}
use borrow.Author.Tests.{le-leb, lt-leb}
use Rattle.view.proofs.Refusals.{refused_by, accepts, answers}
use Rattle.unit.specs.Calls.{with_room}
use Rattle.unit.proofs.check_with_room.Goals as goal

pub returns-in_err-check : goal.returns-in_err-check
unfolding with_room
returns-in_err-check c = refused_by _ _ _ c.from_residual.result c.in_err-check.field-0.0 c.in_err-check.ensures c.from_residual.ensures.1

pub returns-then-command-lt-STORE_BYTES : goal.returns-then-command-lt-STORE_BYTES
unfolding with_room
returns-then-command-lt-STORE_BYTES c = rw (lt-leb _ _ c.if-command-lt-STORE_BYTES.true) (answers _ _ (accepts _ 0 c.in_ok-check.ensures refl))

pub returns : goal.returns
unfolding with_room
returns c = rw (le-leb _ _ c.if-command-lt-STORE_BYTES.false) (answers _ _ (accepts _ 0 c.in_ok-check.ensures refl))
