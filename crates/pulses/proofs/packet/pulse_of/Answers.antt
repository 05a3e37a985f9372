-- The masked shift is the bit.
use Prim.Native.Nat.{◌/◌, ◌^◌}
use Rattle.pulses.proofs.Packets.{pulse-zero, pulse-one}
use Rattle.pulses.proofs.packet.pulse_of.Goals as goal

pub returns-then-byte-k-eq0 : goal.returns-then-byte-k-eq0
returns-then-byte-k-eq0 c = pulse-zero (c.args.byte / 2 ^ c.args.k) c.if-byte-k-eq0.true

pub returns-else-byte-k-eq0 : goal.returns-else-byte-k-eq0
returns-else-byte-k-eq0 c = pulse-one (c.args.byte / 2 ^ c.args.k) c.if-byte-k-eq0.false
