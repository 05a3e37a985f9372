-- `bits::spread` meets its contract: it is tried at every byte.
use native.Mathlib.Omega.{arith}
use Rattle.bits.proofs.Planes.{spread_is}
use Rattle.bits.proofs.spread.Goals as goal

pub returns : goal.returns
returns c = spread_is c.args.x (omega arith)
