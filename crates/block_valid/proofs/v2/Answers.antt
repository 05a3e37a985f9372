-- The tests of V2 are the definition's.
use native.Mathlib.Omega.{arith}
use Rattle.std.proofs.lemmas.Bool.Decides.{nat_tests}
use Rattle.layout.specs.Valid.{v2}
use Rattle.block_valid.proofs.v2.Goals as goal

pub returns-then-lines_agree : goal.returns-then-lines_agree
unfolding v2
returns-then-lines_agree c = grind (arith, nat_tests)

pub returns-else-lines_agree : goal.returns-else-lines_agree
unfolding v2
returns-else-lines_agree c = grind (arith, nat_tests)
