-- Either way of the test.
use mathlib.Core.Path.{refl}
use borrow.Author.Tests.{lt-ltb, le-ltb}
use native.Mathlib.Omega.{arith}
use Rattle.pages.specs.Passes.{fours_in}
use Rattle.pages.proofs.fours_in.Goals as goal

pub returns-then-y-lt96 : goal.returns-then-y-lt96
unfolding fours_in
returns-then-y-lt96 c = rw (lt-ltb c.args.y 96 (omega arith)) refl

pub returns-else-y-lt96 : goal.returns-else-y-lt96
unfolding fours_in
returns-else-y-lt96 c = rw (le-ltb c.args.y 96 (omega arith)) refl
