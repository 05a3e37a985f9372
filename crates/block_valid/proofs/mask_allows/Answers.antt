-- Each arm is the definition's.
use native.Mathlib.Omega.{arith}
use Rattle.std.proofs.lemmas.Bool.Decides.{nat_tests}
use Rattle.layout.specs.Valid.{mask_allows}
use Rattle.block_valid.proofs.mask_allows.Goals as goal

pub returns-in-0 : goal.returns-in-0
unfolding mask_allows
returns-in-0 c = grind (arith, nat_tests)

pub returns-in-1 : goal.returns-in-1
unfolding mask_allows
returns-in-1 c = grind (arith, nat_tests)

pub returns-in_default : goal.returns-in_default
unfolding mask_allows
returns-in_default c = grind (arith, nat_tests)
