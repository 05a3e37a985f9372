-- By whether there is a command.
use mathlib.Core.Path.{refl}
use Rattle.log_chunks.specs.Steps.{told_of}
use Rattle.log_chunks.proofs.told_of.Goals as goal

pub returns-in-None : goal.returns-in-None
unfolding told_of
returns-in-None c = rw c.in-None.is refl

pub returns-in-Some : goal.returns-in-Some
unfolding told_of
returns-in-Some c = rw c.in-Some.is refl
