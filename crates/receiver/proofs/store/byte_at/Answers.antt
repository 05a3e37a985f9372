-- A byte of the low or of the high word is a byte of the number.
use borrow.Author.Rules.{rules}
use Prim.Native.Nat.{◌/◌, ◌*◌, ◌-◌, ◌^◌}
use lib.Bits.{mask_lt}
use Rattle.receiver.proofs.Words.{low_byte, byte_in_high}
use Rattle.receiver.proofs.store.byte_at.Goals as goal

pub overflow_cast-result : goal.overflow_cast-result
overflow_cast-result c = record { fits = mask_lt (c.args.lo / 2 ^ (8 * c.args.i)) 8 }

pub overflow_cast-result-else-i-lt8 : goal.overflow_cast-result-else-i-lt8
overflow_cast-result-else-i-lt8 c = record { fits = mask_lt (c.args.hi / 2 ^ (8 * (c.args.i - 8))) 8 }

pub returns-then-i-lt8 : goal.returns-then-i-lt8
returns-then-i-lt8 c = low_byte c.args.lo c.args.hi c.args.i (search rules) c.if-i-lt8.true

pub returns-else-i-lt8 : goal.returns-else-i-lt8
returns-else-i-lt8 c = byte_in_high c.args.lo c.args.hi c.args.i (search rules) c.if-i-lt8.false (search rules)
