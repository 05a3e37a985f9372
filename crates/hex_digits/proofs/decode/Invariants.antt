use mathlib.Core.Path.{◌≡◌}
use lib.Seq.{paste}
use Rattle.hex_digits.specs.Hex.{spelled}
use Rattle.hex_digits.proofs.decode.Given as goal

abbrev pub invariant-loop-i : goal.invariant-loop-i
invariant-loop-i l = l.bytes ≡ paste l.initial.bytes 0 (spelled l.text) l.i
