-- A countdown of 0 leaves the first half of the rule, any other the second.
use native.Mathlib.Omega.{arith}
use Rattle.std.proofs.lemmas.Bool.Decides.{nat_tests}
use Rattle.layout.specs.Valid.{v4}
use Rattle.block_valid.proofs.v4.Goals as goal

pub returns-in-0 : goal.returns-in-0
unfolding v4
returns-in-0 c = grind (arith, nat_tests)

pub returns-in-1-to-3 : goal.returns-in-1-to-3
unfolding v4
returns-in-1-to-3 c = grind (arith, nat_tests)

pub returns-in_default : goal.returns-in_default
unfolding v4
returns-in_default c = grind (arith, nat_tests)
