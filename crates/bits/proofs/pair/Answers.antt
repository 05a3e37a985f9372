-- `bits::pair` meets its contract: its shift and mask are tried at every byte and place.
use native.Mathlib.Omega.{arith}
use Rattle.bits.proofs.Pairs.{shifted_pair}
use Rattle.bits.proofs.pair.Goals as goal

pub returns : goal.returns
returns c = shifted_pair c.args.x c.args.j (omega arith) (omega arith)
