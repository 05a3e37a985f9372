use mathlib.Core.Path.{◌≡◌}
use lib.ListN.{length}
use Rattle.log_chunks.specs.Steps.{desk_of, left}
use Rattle.log_reader.specs.Read.{point}
use Rattle.log_reader.proofs.Feeding.{Turn}
use Rattle.log_reader.proofs.feed.Given as goal

abbrev pub invariant-loop-desk : goal.invariant-loop-desk
invariant-loop-desk l =
    Turn l.quiet (point l.initial.reading (desk_of l.initial.desk) l.initial.printer.tally) l.chunk (point l.reading (desk_of l.desk) l.printer.tally) l.at
    × (length l.out ≡ length l.initial.out)

abbrev pub decreases-loop-desk : goal.decreases-loop-desk
decreases-loop-desk l = left l.reading (length l.chunk) l.at
