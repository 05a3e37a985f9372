-- The struct is the definition's, field by field.
use mathlib.Core.Path.{refl}
use Rattle.receiver.specs.Receive.{quiet}
use Rattle.receiver.proofs.Receiver.quiet.Goals as goal

pub returns : goal.returns
unfolding quiet
returns c = refl
