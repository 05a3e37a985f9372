-- The way of a command out as pulses and in again, into a receiver that holds no earlier packet: it comes back as it was. RULES 9.2, demand 2.
-- The theorem is `proofs/Returns`' `round_trip`.
use Rattle.std.specs.Prelude.{◌≡◌, true, replicate}
use Rattle.parts.specs.Parts.{store_bytes}
use Rattle.receiver.specs.declared.Stage.{Stage}
use Rattle.receiver.specs.declared.Stage.TheVariants.{Idle, Receiving, Awaiting}
use Rattle.receiver.specs.Receive.{Rx, idle}
use Rattle.receiver.specs.Port.{Port}

-- no earlier packet is held: idle, or receiving with received 0, at any bit index
abbrev pub NoneHeldAt : Stage → Rx → Type 0
NoneHeldAt Idle r = Unit {0}
NoneHeldAt Receiving r = r.received ≡ 0
NoneHeldAt Awaiting r = ⊥

abbrev pub NoneHeld : Rx → Type 0
NoneHeld r = NoneHeldAt r.stage r

-- the port at rest: both lines high, the receiver idle, the store empty
unfoldable pub resting : Port
resting = record { p15 = true; both = true; rx = idle; store = replicate store_bytes 0 }
