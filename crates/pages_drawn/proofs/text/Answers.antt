-- By what `page_screen` answered.
use Rattle.std.proofs.Common.{ap, sym, ◌∙◌, arith}
use Rattle.view.specs.Answers.{number_told}
use Rattle.pages_drawn.proofs.Shades.{length_graymap, graymap_all}
use Rattle.pages_drawn.proofs.Texts.{text-refused, text-given}
use Rattle.bits.proofs.Named.{as-value-upper_bound-out_after}
use Rattle.pages_drawn.proofs.text.Goals as goal

pub returns-in-Err : goal.returns-in-Err
returns-in-Err c =
    let start = c in
    let asked = c.page_screen in
    let line = c.number_line.ensures in
    let told = sym (ap number_told c.in-Err.is) ∙ asked.ensures.result_value in
    as-value-upper_bound-out_after (rw (text-refused start.args.came.now start.args.screen.now start.requires.0 _ c.from.result told (c.from.ensures ∙ c.number.ensures))
    (line.value, (omega (arith, line.upper_bound), line.out_after)))

pub returns-in-Ok : goal.returns-in-Ok
returns-in-Ok c =
    let start = c in
    let asked = c.page_screen in
    let left = asked.new.screen in
    let told = sym (ap number_told c.in-Ok.is) ∙ asked.ensures.result_value in
    as-value-upper_bound-out_after (rw (text-given start.args.came.now start.args.screen.now start.requires.0 _ left told asked.ensures.screen_after)
    (sym (length_graymap left), (omega arith, graymap_all left start.args.out.now _ start.requires.1 c.graymap.ensures)))
