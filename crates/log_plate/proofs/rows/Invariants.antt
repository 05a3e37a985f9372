use Rattle.std.proofs.Common.{◌≡◌, length}
use Rattle.log_reader.specs.Fed.{out_bytes}
use Rattle.log_plate.proofs.Drawing.{Rows}
use Rattle.log_plate.proofs.rows.Given as goal

abbrev pub invariant-loop-y : goal.invariant-loop-y
invariant-loop-y l = Rows l.block l.initial.printer.tally l.printer.tally l.y × ((length l.words ≡ 256) × (length l.out ≡ out_bytes))
