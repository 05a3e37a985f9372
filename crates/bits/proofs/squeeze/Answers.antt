-- `bits::squeeze` meets its contract: it is tried at every byte.
use native.Mathlib.Omega.{arith}
use Rattle.bits.proofs.Planes.{squeeze_is}
use Rattle.bits.proofs.squeeze.Goals as goal

pub returns : goal.returns
returns c = squeeze_is c.args.x (omega arith)
