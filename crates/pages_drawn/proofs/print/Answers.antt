-- By how reading ended.
use Rattle.std.proofs.Common.{List, ℕ, Bool, is_ok, take, subst, sym, arith}
use Rattle.std.proofs.lemmas.Grind.{common_steps}
use Rattle.log_writer.specs.Tally.{Sent}
use Rattle.file_reader.specs.Told.{Told}
use Rattle.file_reader.proofs.Coming.{told_sent, told_failed}
use Rattle.pages_drawn.specs.Graymap.{page_text}
use Rattle.pages_drawn.specs.Lent.{input_bytes}
use Rattle.pages_drawn.proofs.Texts.{however_it-goes_on}
use Rattle.pages_drawn.proofs.print.Goals as goal

pub returns-in_err-came : goal.returns-in_err-came
returns-in_err-came c =
    let args = c.args in
    let came = take args.read.got args.input.now in
    let none = told_failed page_text args.read.end came args.printer.now.tally (sym c.in_err-came.ensures.variant) in
    subst (λ (b : Bool). Told page_text args.read.end b came args.printer.now.tally args.printer.now.tally) (grind (arith, common_steps, c.from_residual.ensures)) none

pub returns : goal.returns
returns c =
    let args = c.args in
    let t = c.tell in
    let front = c.in_ok-came.ensures in
    let sent = subst (λ (l : List ℕ). Sent (is_ok t.result) args.printer.now.tally (page_text l) t.new.printer.tally) front.value t.ensures in
    told_sent page_text args.read.got args.input.now (is_ok t.result) args.printer.now.tally t.new.printer.tally args.read.end input_bytes c.requires.input_len.0 however_it-goes_on
    c.requires.came (sym front.variant) sent
