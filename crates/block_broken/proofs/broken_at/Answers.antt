-- Either case is the definition's.
use Rattle.broken.specs.Broken.{number_of}
use Rattle.block_found.specs.Found.{found_told}
use Rattle.block_broken.proofs.broken_at.Goals as goal

pub returns-in-Some : goal.returns-in-Some
unfolding number_of found_told
returns-in-Some c = rw c.in-Some.is

pub returns-in-None : goal.returns-in-None
unfolding number_of found_told
returns-in-None c = rw c.in-None.is
