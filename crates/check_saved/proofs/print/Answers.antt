-- By how reading ended.
use Rattle.std.proofs.Common.{List, ℕ, Bool, is_ok, take, subst, sym, arith}
use Rattle.std.proofs.lemmas.Grind.{common_steps}
use Rattle.log_writer.specs.Tally.{Sent}
use Rattle.file_reader.proofs.Coming.{told_sent, told_failed}
use Rattle.check_saved.specs.Verdict.{check_text}
use Rattle.check_saved.specs.Checked.{saved_bytes, Told}
use Rattle.check_saved.proofs.Coming.{however_it-goes_on}
use Rattle.check_saved.proofs.print.Goals as goal

pub returns-in_err-came : goal.returns-in_err-came
returns-in_err-came c =
    let args = c.args in
    let came = take args.read.got args.saved.now in
    let none = told_failed check_text args.read.end came args.printer.now.tally (sym c.in_err-came.ensures.variant) in
    subst (λ (b : Bool). Told args.read.end b came args.printer.now.tally args.printer.now.tally) (grind (arith, common_steps, c.from_residual.ensures)) none

pub returns : goal.returns
returns c =
    let args = c.args in
    let v = c.verdict in
    let front = c.in_ok-came.ensures in
    let sent = subst (λ (l : List ℕ). Sent (is_ok v.result) args.printer.now.tally (check_text l) v.new.printer.tally) front.value v.ensures in
    told_sent check_text args.read.got args.saved.now (is_ok v.result) args.printer.now.tally v.new.printer.tally args.read.end saved_bytes c.requires.saved_len.0 however_it-goes_on
    c.requires.came (sym front.variant) sent
