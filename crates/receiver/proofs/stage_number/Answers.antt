-- Each arm knows its stage, and the definition computes there.
use Rattle.receiver.specs.Receive.{stage_number}
use Rattle.receiver.proofs.stage_number.Goals as goal

pub returns-in-Idle : goal.returns-in-Idle
unfolding stage_number
returns-in-Idle c = rw c.in-Idle.is

pub returns-in-Receiving : goal.returns-in-Receiving
unfolding stage_number
returns-in-Receiving c = rw c.in-Receiving.is

pub returns-in-Awaiting : goal.returns-in-Awaiting
unfolding stage_number
returns-in-Awaiting c = rw c.in-Awaiting.is
