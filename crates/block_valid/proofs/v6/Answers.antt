-- Whether the mask allows it, and the frozen capture's bytes exactly if byte 12 is 0.
use native.Mathlib.Omega.{arith}
use Rattle.std.proofs.lemmas.Bool.Decides.{nat_tests}
use Rattle.layout.specs.Valid.{v6}
use Rattle.block_valid.proofs.v6.Goals as goal

pub returns-then-frozen_on-ne0 : goal.returns-then-frozen_on-ne0
unfolding v6
returns-then-frozen_on-ne0 c = grind (arith, nat_tests)

pub returns-else-frozen_on-ne0 : goal.returns-else-frozen_on-ne0
unfolding v6
returns-else-frozen_on-ne0 c = grind (arith, nat_tests)

pub returns-else-mask_allows : goal.returns-else-mask_allows
unfolding v6
returns-else-mask_allows c = grind (arith, nat_tests)
