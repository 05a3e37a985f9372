use Prim.Native.Nat.{◌+◌, ◌*◌, ◌≤◌}
use Rattle.log_chunks.specs.Steps.{desk_of, begun}
use Rattle.log_reader.specs.Fed.{chunk_bytes}
use Rattle.log_reader.specs.Read.{point}
use Rattle.log_reader.proofs.Outcomes.{SoFar}
use Rattle.log_reader.proofs.read_log.Given as goal

abbrev pub invariant-loop-past : goal.invariant-loop-past
invariant-loop-past l =
    SoFar l.quiet (point begun (desk_of l.initial.desk) l.initial.printer.tally) l.read (point l.read.reading (desk_of l.desk) l.printer.tally)
    × ((l.read.reading.number ≤ 1 + l.past * chunk_bytes) × (l.read.got ≤ l.past * chunk_bytes))
