-- By whether the line is too long, and then by what it is.
use mathlib.Core.Path.{refl, ap, ◌∙◌}
use native.Mathlib.Omega.{arith}
use Rattle.std.specs.Prelude.{Ok}
use Rattle.log_chunks.specs.Steps.{desk_of}
use Rattle.log_chunks.proofs.Coded.{ended-long, parsed-refused, parsed-writes, parsed-screen}
use Rattle.log_chunks.proofs.end_line.Goals as goal

pub returns-in_default : goal.returns-in_default
returns-in_default g c =
    let k = ended-long c.args.reading (desk_of c.args.desk.now) c.args.at _ _ c.in_default.is c.behind.ensures refl in
    record { value = k.0; desk_after = k.1 }

pub returns-in-Err : goal.returns-in-Err
returns-in-Err g c =
    let p = c.parse.ensures in
    let k = parsed-refused c.args.reading (desk_of c.args.desk.now) c.args.at c.in-Bytes.size c.in-Bytes.is (omega arith) c.parse.result _ p.result_value p.bytes_after _ _ c.in-Err.is c.behind-in-Err.ensures in
    record { value = k.0; desk_after = k.1 }

pub returns-in-Ok-Writes : goal.returns-in-Ok-Writes
returns-in-Ok-Writes g c =
    let p = c.parse.ensures in
    let k = parsed-writes c.args.reading (desk_of c.args.desk.now) c.args.at c.in-Bytes.size c.in-Bytes.is (omega arith) c.parse.result _ p.result_value p.bytes_after _ _ (c.in-Ok-Writes.is ∙ ap Ok c.in-Ok-Writes.field-0-is) c.behind-in-Ok-Writes.ensures in
    record { value = k.0; desk_after = k.1 }

pub returns-in-Ok-Screen : goal.returns-in-Ok-Screen
returns-in-Ok-Screen g c =
    let p = c.parse.ensures in
    let k = parsed-screen c.args.reading (desk_of c.args.desk.now) c.args.at c.in-Bytes.size c.in-Bytes.is (omega arith) c.parse.result _ p.result_value p.bytes_after _ _ (c.in-Ok-Screen.is ∙ ap Ok c.in-Ok-Screen.field-0-is) c.show.ensures.1 c.behind-in-Ok-Screen.ensures in
    record { value = k.0; desk_after = k.1 }
