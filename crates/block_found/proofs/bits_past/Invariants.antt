use Prim.Native.Nat.{◌+◌}
use mathlib.Core.Path.{◌≡◌}
use lib.ListN.{drop}
use Rattle.parts.specs.Parts.{packet_at}
use Rattle.broken.specs.Broken.{lowest, clear_from}
use Rattle.block_found.proofs.bits_past.Given as goal

abbrev pub invariant-loop-i : goal.invariant-loop-i
invariant-loop-i l = lowest (clear_from l.index packet_at l.packet) ≡ lowest (clear_from l.left (packet_at + l.i) (drop l.i l.packet))
