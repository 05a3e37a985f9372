use mathlib.Core.Path.{◌≡◌}
use lib.ListN.{length}
use Rattle.parts.specs.Parts.{map_bytes}
use Rattle.bits.specs.Paint.{Painted}
use Rattle.attribute_map.specs.Map.{four_at}
use Rattle.attribute_map.proofs.pack.Given as goal

abbrev pub invariant-loop-i : goal.invariant-loop-i
invariant-loop-i l = (length l.bytes ≡ map_bytes) × Painted l.bytes l.initial.bytes 0 l.i (four_at l.map)
