-- `bits::word` meets its contract: a shifted byte and a byte below it share no bit, so their OR is their sum.
use native.Mathlib.Omega.{arith}
use Rattle.bits.proofs.Words.{or_word}
use Rattle.bits.proofs.word.Goals as goal

pub returns : goal.returns
returns c = simp (c.from.ensures, c.from-2.ensures) (or_word c.args.low c.args.high (omega arith) (omega arith))
