-- Either arm is the definition's.
use Rattle.broken.specs.Broken.{byte_of}
use Rattle.block_found.specs.Found.{found_told}
use Rattle.block_found.proofs.unless.Goals as goal

pub returns-then-holds : goal.returns-then-holds
unfolding found_told byte_of
returns-then-holds c = rw c.if-holds.true

pub returns-else-holds : goal.returns-else-holds
unfolding found_told byte_of
returns-else-holds c = rw c.if-holds.false
