-- The struct is the definition's, field by field.
use mathlib.Core.Path.{refl}
use Rattle.receiver.specs.Receive.{idle}
use Rattle.receiver.proofs.Receiver.new.Goals as goal

pub returns : goal.returns
unfolding idle
returns c = refl
