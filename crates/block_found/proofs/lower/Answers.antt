-- The lower of two bytes, or the one that there is.
use mathlib.Core.Path.{ap}
use mathlib.Core.Option.{some}
use Rattle.broken.specs.Broken.{lower}
use Rattle.block_found.specs.Found.{found_told}
use Rattle.block_found.proofs.lower.Goals as goal

pub returns-in-Some-Some : goal.returns-in-Some-Some
unfolding found_told lower
returns-in-Some-Some c = rw (c.in-Some-Some.is-0, c.in-Some-Some.is-1) (ap some c.min.ensures)

pub returns-in-Some-None : goal.returns-in-Some-None
unfolding found_told lower
returns-in-Some-None c = rw (c.in-Some-None.is-0, c.in-Some-None.is-1)

pub returns-in-None-default : goal.returns-in-None-default
unfolding found_told lower
returns-in-None-default c = rw c.in-None-default.is-0
