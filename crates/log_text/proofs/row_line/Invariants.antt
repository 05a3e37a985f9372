use Prim.Native.Nat.{◌*◌}
use mathlib.Core.Path.{◌≡◌}
use lib.ListN.{take}
use Rattle.bits.specs.Over.{over}
use Rattle.log_text.specs.Text.{words_text}
use Rattle.log_text.proofs.row_line.Given as goal

abbrev pub invariant-loop-i : goal.invariant-loop-i
invariant-loop-i l = l.out ≡ over 0 (4 * l.i) (words_text (take l.i l.words)) l.initial.out
