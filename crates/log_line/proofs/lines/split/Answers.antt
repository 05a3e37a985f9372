-- `log_line::lines::split` meets its contract: what comes up to the next LF is copied behind what is held, if all of it has room.
use Prim.Native.Nat.{◌≤◌}
use native.Mathlib.Omega.{arith}
use Rattle.log_line.specs.Line.{line_digits}
use Rattle.log_line.proofs.Splitting.{split-long, split-full, split-copied}
use Rattle.bits.proofs.Named.{as-value-line_after}
use Rattle.log_line.proofs.lines.split.Goals as goal

pub returns-in-Bytes : goal.returns-in-Bytes
returns-in-Bytes c =
    let start = c.args in
    let fits : c.in-Bytes.size ≤ line_digits = rw c.in-Bytes.is at c.requires.size_le_line_digits in
    as-value-line_after (rw c.in-Bytes.is (split-copied start.chunk.now start.line.now start.at _ c.find_lf-e.ensures.value c.in-Bytes.size _ (omega arith) c.put.ensures))

pub returns-in_default : goal.returns-in_default
returns-in_default c =
    let start = c.args in
    as-value-line_after (rw c.in-Bytes.is (split-full start.chunk.now start.line.now start.at _ c.find_lf-e.ensures.value c.in-Bytes.size (omega arith)))

pub returns-in_default-2 : goal.returns-in_default-2
returns-in_default-2 c =
    let start = c.args in
    as-value-line_after (rw c.in_default.is (split-long start.chunk.now start.line.now start.at _ c.find_lf-e.ensures.value))
