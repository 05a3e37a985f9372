-- By what was asked and what came of the write.
use Rattle.std.proofs.Common.{Bool, cond, sym, ap, refl, true, false}
use Rattle.log_writer.specs.declared.State.TheVariants.{Well, Failed, Refused}
use Rattle.log_writer.proofs.Telling.{told-quiet, told_loud}
use Rattle.log_writer.proofs.told.Goals as goal

pub returns-then-refused : goal.returns-then-refused
returns-then-refused c =
    let args = c.args in
    told-quiet args.quiet args.refused args.printer.now.tally args.text.now Refused c.if-quiet.true (ap (λ (b : Bool). cond b Refused Well) (sym c.if-refused.true))

pub returns-else-refused : goal.returns-else-refused
returns-else-refused c =
    let args = c.args in
    told-quiet args.quiet args.refused args.printer.now.tally args.text.now Well c.if-quiet.true (ap (λ (b : Bool). cond b Refused Well) (sym c.if-refused.false))

pub returns-in-Ok : goal.returns-in-Ok
returns-in-Ok c =
    let args = c.args in
    told_loud args.quiet args.refused args.printer.now.tally args.text.now Well c.write_out.new.printer.tally true c.if-quiet.false refl c.in-Ok.ensures

pub returns-in-Err : goal.returns-in-Err
returns-in-Err c =
    let args = c.args in
    told_loud args.quiet args.refused args.printer.now.tally args.text.now Failed c.write_out.new.printer.tally false c.if-quiet.false refl c.in-Err.ensures
