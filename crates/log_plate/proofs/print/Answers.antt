-- By the state.
use Rattle.std.specs.Result.{is_ok}
use Rattle.log_plate.proofs.Closing.{closed_well, closed_failed, closed-refused}
use Rattle.log_plate.proofs.print.Goals as goal

pub returns-in-Well : goal.returns-in-Well
returns-in-Well c =
    let args = c.args in
    closed_well args.read.state args.read.reading args.block.now (is_ok c.picture.result) args.printer.now.tally c.picture.new.printer.tally c.in-Well.is c.picture.ensures

pub returns-in-Failed : goal.returns-in-Failed
returns-in-Failed c =
    let args = c.args in
    closed_failed args.read.state args.read.reading args.block.now args.printer.now.tally c.in-Failed.is

pub returns-in-Refused : goal.returns-in-Refused
returns-in-Refused c =
    let args = c.args in
    closed-refused args.read.state args.read.reading args.block.now (is_ok c.refusal.result) args.printer.now.tally c.refusal.new.printer.tally c.in-Refused.is c.refusal.ensures
