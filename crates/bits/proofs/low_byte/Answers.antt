-- `bits::low_byte` meets its contract: the mask of eight bits is the remainder.
use borrow.Author.Rules.{Fits-under}
use lib.Bits.{and_mask, mask_lt}
use Rattle.bits.specs.Word.{low_byte}
use Rattle.bits.proofs.low_byte.Goals as goal

pub overflow_cast-result : goal.overflow_cast-result
overflow_cast-result c = Fits-under _ _ 256 (mask_lt c.args.w 8) tt

pub returns : goal.returns
unfolding low_byte
returns c = and_mask c.args.w 8
