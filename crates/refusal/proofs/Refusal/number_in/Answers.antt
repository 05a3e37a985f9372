-- The mask of eight bits is the remainder.
use borrow.Author.Rules.{Fits-under}
use lib.Bits.{and_mask, mask_lt}
use Rattle.refusal.proofs.Refusal.number_in.Goals as goal

pub overflow_cast-result : goal.overflow_cast-result
overflow_cast-result c = Fits-under _ _ 256 (mask_lt c.args.code 8) tt

pub returns : goal.returns
returns c = and_mask c.args.code 8
