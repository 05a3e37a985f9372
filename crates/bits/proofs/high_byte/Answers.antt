-- `bits::high_byte` meets its contract: the shift is the quotient, which is below 256.
use borrow.Author.Rules.{rules}
use Rattle.bits.specs.Word.{high_byte}
use Rattle.bits.proofs.high_byte.Goals as goal

pub returns : goal.returns
unfolding high_byte
returns c = search rules
