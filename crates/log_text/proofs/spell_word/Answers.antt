-- `log_text::spell_word` meets its contract: the high byte's digits, then the low one's.
use native.Mathlib.Omega.{arith}
use Rattle.log_text.proofs.Printed.{word_put}
use Rattle.log_text.proofs.spell_word.Goals as goal

pub returns : goal.returns
returns c =
    let start = c.args in
    let high = c.high_byte.ensures in
    let low = c.low_byte.ensures in
    let first = c.spell_byte.ensures in
    word_put start.w _ _ start.at start.out.now _ _ (omega arith) high low first c.spell_byte-2.ensures
