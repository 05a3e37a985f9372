-- The preset's bytes are looked at exactly if byte 9 is 0.
use native.Mathlib.Omega.{arith}
use Rattle.std.proofs.lemmas.Bool.Decides.{nat_tests}
use Rattle.layout.specs.Valid.{v5}
use Rattle.block_valid.proofs.v5.Goals as goal

pub returns-then-front-ne0 : goal.returns-then-front-ne0
unfolding v5
returns-then-front-ne0 c = grind (arith, nat_tests)

pub returns-else-front-ne0 : goal.returns-else-front-ne0
unfolding v5
returns-else-front-ne0 c = grind (arith, nat_tests)
