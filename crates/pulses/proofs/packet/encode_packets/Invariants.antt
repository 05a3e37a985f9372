use mathlib.Core.Path.{◌≡◌}
use mathlib.Core.List.{◌++◌}
use Prim.Native.Nat.{◌*◌}
use lib.ListN.{length, drop}
use Rattle.pulses.specs.Encode.{pulses_of}
use Rattle.pulses.proofs.packet.encode_packets.Given as goal

abbrev pub invariant-loop-p : goal.invariant-loop-p
invariant-loop-p l = (length l.out ≡ length l.initial.out) × (l.out ≡ pulses_of l.p l.command ++ drop (260 * l.p) l.initial.out)
