-- A row a turn.
use Rattle.std.proofs.Common.{refl, ◌∙◌, Bool, subst, arith}
use Rattle.std.proofs.lemmas.Grind.{common_steps}
use Rattle.layout.specs.Block.{load}
use Rattle.log_writer.specs.Tally.{Sent}
use Rattle.log_chunks.specs.Texts.{picture_lines}
use Rattle.log_plate.proofs.Drawing.{rows_none, rows_next, rows_cut, rows_all}
use Rattle.log_plate.proofs.rows.Goals as goal

pub loop-y-init : goal.loop-y-init
loop-y-init c = (rows_none c.args.block.now c.args.printer.now.tally, (c.requires.words_len.0, c.requires.words_len.1))

pub returns-in_err-write_out : goal.returns-in_err-write_out
returns-in_err-write_out c =
    let args = c.args in
    let a = c.loop-y in
    let w = c.write_out in
    let cut = rows_cut args.block.now args.printer.now.tally a.printer.tally a.y a.invariant.0 c.loop-y-test.true _ a.out _ refl c.row_line.ensures.out_after w.new.printer.tally
    c.in_err-write_out.ensures in
    subst (λ (b : Bool). Sent b args.printer.now.tally (picture_lines (load args.block.now)) w.new.printer.tally) (grind (arith, common_steps, c.from_residual.ensures)) cut

pub loop-y-preserved : goal.loop-y-preserved
loop-y-preserved c =
    let args = c.args in
    let a = c.loop-y in
    let w = c.write_out in (
      rows_next args.block.now args.printer.now.tally a.printer.tally a.y a.invariant.0 c.loop-y-test.true _ a.out _ refl c.row_line.ensures.out_after w.new.printer.tally
          c.in_ok-write_out.ensures,
      (c.row_line.auto.words ∙ a.invariant.1.0, c.row_line.auto.out ∙ a.invariant.1.1),
    )

pub returns : goal.returns
returns c = rows_all c.args.block.now c.args.printer.now.tally c.loop-y.printer.tally c.loop-y.y c.loop-y.invariant.0 (omega arith)
