use mathlib.Core.Bool.{◌&&◌}
use mathlib.Core.Path.{◌≡◌}
use lib.Dec.{ltb}
use lib.ListN.{drop}
use Rattle.hex_digits.proofs.Reading.{all_digits}
use Rattle.hex_digits.proofs.spells.Given as goal

abbrev pub invariant-loop-b : goal.invariant-loop-b
invariant-loop-b l = all_digits l.text ≡ (ltb l.all 16 && all_digits (drop l.b-index l.text))
