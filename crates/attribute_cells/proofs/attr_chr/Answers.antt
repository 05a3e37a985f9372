-- The bytes read are the definition's, and a pair that is announced and held is within the data.
use mathlib.Core.Path.{◌∙◌}
use Rattle.bits.specs.Word.{word_at}
use Rattle.attribute_cells.specs.Chr.{chr_map}
use Rattle.attribute_cells.proofs.attr_chr.Goals as goal

pub returns : goal.returns
unfolding chr_map word_at
returns c = c.run.ensures ∙ rw (c.from-2.ensures, c.from.ensures, c.min-total.ensures, c.from-count.ensures, c.word.ensures)
