-- The struct is the definition's, field by field.
use mathlib.Core.Path.{refl}
use Rattle.receiver.specs.Receive.{begun, restarted}
use Rattle.receiver.proofs.Receiver.restart.Goals as goal

pub returns : goal.returns
unfolding begun restarted
returns c = refl
