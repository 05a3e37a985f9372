-- A block that is not refused is valid.
use mathlib.Core.Path.{refl}
use Rattle.view.proofs.Refusals.{accepts}
use Rattle.view.proofs.valid.Goals as goal

pub invariant_of-result : goal.invariant_of-result
invariant_of-result c = record { valid = accepts _ 0 c.in_ok-check.ensures refl }
