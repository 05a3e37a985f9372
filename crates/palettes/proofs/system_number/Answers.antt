-- Nine bits of the word at 1 + 2 i.
use mathlib.Core.Path.{◌∙◌}
use lib.Bits.{and_mask, mask_lt}
use Rattle.bits.specs.Word.{word_at}
use Rattle.palettes.specs.Palettes.{system_number}
use Rattle.palettes.proofs.system_number.Goals as goal

pub returns : goal.returns
unfolding system_number word_at
returns c = (c.from.ensures ∙ and_mask c.word.result 9 ∙ rw c.word.ensures, rw c.from.ensures (mask_lt c.word.result 9))
