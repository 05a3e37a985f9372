use Rattle.std.proofs.Common.{◌≡◌, ◌-◌, ◌≤◌, length}
use Rattle.file_reader.proofs.read_file.Given as goal

abbrev pub invariant-loop-got : goal.invariant-loop-got
invariant-loop-got l = (l.got ≤ length l.file) × (length l.file ≡ length l.initial.file)

abbrev pub decreases-loop-got : goal.decreases-loop-got
decreases-loop-got l = length l.initial.file - l.got
