-- The test is the definition's; else the word of the two bytes at that place.
use mathlib.Core.Path.{◌∙◌}
use borrow.Author.Tests.{eq-eqb, ne_eqb}
use Rattle.bits.specs.Word.{word_at}
use Rattle.picture.specs.Tables.{border_color}
use Rattle.picture.proofs.border_color.Goals as goal

pub returns-then-n-eq0 : goal.returns-then-n-eq0
unfolding border_color
returns-then-n-eq0 c = rw (eq-eqb _ 0 c.if-n-eq0.true)

pub returns : goal.returns
unfolding border_color word_at
returns c = c.from_bytes.ensures ∙ rw (ne_eqb _ 0 c.if-n-eq0.false)
