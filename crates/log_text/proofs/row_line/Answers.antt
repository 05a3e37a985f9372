-- `log_text::row_line` meets its contract: after i turns the first i words are spelled out, and LF is put behind the last.
use mathlib.Core.Path.{refl}
use native.Mathlib.Omega.{arith}
use Rattle.log_text.specs.Text.{words_text}
use Rattle.log_text.proofs.Printed.{row_turn, row_end}
use Rattle.log_text.proofs.row_line.Goals as goal

pub loop-i-init : goal.loop-i-init
unfolding words_text
loop-i-init c = refl

pub loop-i-preserved : goal.loop-i-preserved
loop-i-preserved c =
    let l = c.loop-i in
    row_turn c.args.words.now c.args.out.now l.out _ l.i (omega arith) l.invariant c.spell_word.ensures

pub returns : goal.returns
returns c =
    let l = c.loop-i in
    row_end c.args.words.now c.args.out.now l.out l.i (omega arith) (omega arith) (omega arith) l.invariant
