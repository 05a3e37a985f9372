-- `bits::right_four` meets its contract: the high bits of the pairs, and the low ones.
use native.Mathlib.Omega.{arith}
use Rattle.bits.proofs.Planes.{right_is}
use Rattle.bits.proofs.right_four.Goals as goal

pub returns : goal.returns
returns c = let a = c.args in
    right_is a.low a.high _ _ (omega arith) (omega arith) c.spread.ensures c.spread-2.ensures
