use mathlib.Core.Path.{◌≡◌}
use Prim.Native.Nat.{◌+◌, ◌*◌}
use lib.ListN.{length}
use Rattle.pulses.specs.Encode.{packet_pulses}
use Rattle.pulses.proofs.Front.{front}
use Rattle.pulses.proofs.packet.encode_packet.Given as goal

abbrev pub invariant-loop-k : goal.invariant-loop-k
invariant-loop-k l =
    (length l.out ≡ 260)
    × (length l.packet ≡ 16)
    × (length l.initial.out ≡ 260)
    × (l.out ≡ front (packet_pulses l.packet) l.initial.out (2 + 2 * l.k))
