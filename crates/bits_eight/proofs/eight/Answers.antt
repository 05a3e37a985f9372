-- `bits_eight::eight` meets its contract: each byte goes above those before it.
use native.Mathlib.Omega.{arith}
use Rattle.bits_eight.specs.Eight.{eight_at}
use Rattle.bits_eight.proofs.Eights.{eight-bytes}
use Rattle.bits_eight.proofs.eight.Goals as goal

pub returns : goal.returns
unfolding eight_at
returns c =
    simp (c.from.ensures, c.from-2.ensures, c.from-3.ensures, c.from-4.ensures, c.from-5.ensures, c.from-6.ensures, c.from-7.ensures, c.from-8.ensures)
    (eight-bytes _ _ _ _ _ _ _ _ (omega arith) (omega arith) (omega arith) (omega arith) (omega arith) (omega arith) (omega arith) (omega arith))
