-- `hex_digits::two_digits` meets its contract: its word is tried at every two digits.
use Prim.Native.Nat.{◌/◌}
use mathlib.Core.Path.{ap, ◌∙◌}
use native.Mathlib.Omega.{arith}
use lib.Bits.{and_le_r}
use Rattle.hex_digits.proofs.Digits.{values, joined, joined_small, joined_is}
use Rattle.hex_digits.proofs.two_digits.Goals as goal

pub overflow_mul-values : goal.overflow_mul-values
overflow_mul-values c = omega (arith, and_le_r (c.word-both.result / 64) 0x0101)

pub overflow_add-values : goal.overflow_add-values
overflow_add-values c = omega (arith, and_le_r c.word-both.result 0x0F0F, and_le_r (c.word-both.result / 64) 0x0101)

pub overflow_cast-result : goal.overflow_cast-result
unfolding joined values
overflow_cast-result c = omega (arith, joined_small c.word-both.result)

pub returns : goal.returns
unfolding joined values
returns c = ap joined c.word-both.ensures ∙ joined_is c.args.high c.args.low (omega arith) (omega arith) c.requires.0 c.requires.1
