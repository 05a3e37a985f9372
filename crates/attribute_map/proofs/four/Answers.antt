-- Each cell keeps two bits, and shifted pairs do not meet, so OR adds them.
use Prim.Native.Nat.{◌%◌}
use native.Mathlib.Omega.{arith}
use Rattle.bits.proofs.Masks.{pair-mask}
use Rattle.attribute_map.proofs.Packing.{or-four}
use Rattle.attribute_map.proofs.four.Goals as goal

pub returns : goal.returns
returns c = simp pair-mask (or-four (c.args.a % 4) (c.args.b % 4) (c.args.c % 4) (c.args.d % 4) (omega arith) (omega arith) (omega arith) (omega arith))
