use Prim.Native.Nat.{◌+◌, ◌≤◌}
use mathlib.Core.Path.{◌≡◌}
use Rattle.log_line.specs.Split.{lf_at}
use Rattle.log_line.proofs.lines.count_lf.Given as goal

abbrev pub invariant-loop-b : goal.invariant-loop-b
invariant-loop-b l = (l.n ≤ l.b-index) × ((l.n ≡ 0) → lf_at l.chunk l.at ≡ lf_at l.chunk (l.at + l.b-index))
