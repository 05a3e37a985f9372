use lib.ListN.{length}
use Rattle.log_chunks.specs.Steps.{desk_of, left}
use Rattle.bench_jobs.proofs.Chunks.{Within}
use Rattle.bench_jobs.proofs.read_log.Given as goal

abbrev pub invariant-chunks : goal.invariant-chunks
invariant-chunks l = Within (length l.input) (length l.fn.text) l.reading (desk_of l.desk) l.at l.n

abbrev pub decreases-chunks : goal.decreases-chunks
decreases-chunks l = left l.reading (length l.input) l.at
