-- Each byte that goes by is no LF.
use mathlib.Core.Path.{◌≡◌}
use Rattle.log_line.specs.Split.{lf_at}
use Rattle.log_line.proofs.lines.find.Given as goal

abbrev pub invariant-loop-i : goal.invariant-loop-i
invariant-loop-i l = lf_at l.chunk l.at ≡ lf_at l.chunk l.i
