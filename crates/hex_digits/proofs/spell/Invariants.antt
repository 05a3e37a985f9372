use Prim.Native.Nat.{◌*◌}
use mathlib.Core.Path.{◌≡◌}
use lib.ListN.{take}
use Rattle.bits.specs.Over.{over}
use Rattle.hex_digits.specs.Hex.{hex_text}
use Rattle.hex_digits.proofs.spell.Given as goal

abbrev pub invariant-loop-i : goal.invariant-loop-i
invariant-loop-i l = l.out ≡ over l.at (2 * l.i) (hex_text (take l.i l.src)) l.initial.out
