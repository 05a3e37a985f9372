use Rattle.log_chunks.specs.Steps.{desk_of, left}
use Rattle.log_chunks.proofs.Turns.{Turn}
use Rattle.log_chunks.proofs.fill.Given as goal
use lib.ListN.{length}

abbrev pub invariant-loop-desk : goal.invariant-loop-desk
invariant-loop-desk g l = Turn l.initial.f.reading (desk_of l.initial.desk) l.chunk l.from l.initial.out l.f (desk_of l.desk) l.out

abbrev pub decreases-loop-desk : goal.decreases-loop-desk
decreases-loop-desk g l = left l.f.reading (length l.chunk) l.f.at
