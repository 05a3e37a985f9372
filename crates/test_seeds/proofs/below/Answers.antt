-- A remainder is below its divisor.
use native.Mathlib.Nat.{mod-lt}
use native.Mathlib.Omega.{arith}
use Rattle.test_seeds.proofs.below.Goals as goal

pub returns : goal.returns
returns c = mod-lt _ (omega arith)
