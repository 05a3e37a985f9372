-- Each arm knows what was completed, and the definition computes there.
use mathlib.Core.Path.{refl}
use Prim.Native.Nat.{◌<◌}
use native.Mathlib.Omega.{arith}
use Rattle.receiver.specs.Store.{packets_of, packets_if, filed}
use Rattle.receiver.proofs.Completed.{if_some}
use Rattle.receiver.proofs.store.file.Goals as goal

pub append-requires : goal.append-requires
append-requires c = (rw c.in-Packet.is at c.requires.0, c.requires.1)

pub overflow_sub-n : goal.overflow_sub-n
overflow_sub-n c = (rw c.in-Command.is at c.requires.0).0

pub append-requires-in-Command : goal.append-requires-in-Command
append-requires-in-Command c =
    let h : 0 < _ × _ < 8 = rw c.in-Command.is at c.requires.0 in (omega arith, c.requires.1)

pub returns-in-Nothing : goal.returns-in-Nothing
unfolding packets_of packets_if filed
returns-in-Nothing c = rw c.in-Nothing.is (refl, refl)

pub returns-in-Packet : goal.returns-in-Packet
unfolding packets_of packets_if filed
returns-in-Packet c = rw c.in-Packet.is (refl, c.append.ensures)

pub returns-in-Command : goal.returns-in-Command
unfolding packets_of filed
returns-in-Command c = let h : 0 < _ × _ < 8 = rw c.in-Command.is at c.requires.0 in rw c.in-Command.is (if_some _ h.0, c.append-in-Command.ensures)
