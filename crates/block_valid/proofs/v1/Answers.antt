-- The tests of V1 are the definition's.
use native.Mathlib.Omega.{arith}
use Rattle.std.proofs.lemmas.Bool.Decides.{nat_tests}
use Rattle.layout.specs.Valid.{v1}
use Rattle.block_valid.proofs.v1.Goals as goal

pub returns-then-pads-le3 : goal.returns-then-pads-le3
unfolding v1
returns-then-pads-le3 c = grind (arith, nat_tests)

pub returns-else-pads-le3 : goal.returns-else-pads-le3
unfolding v1
returns-else-pads-le3 c = grind (arith, nat_tests)
