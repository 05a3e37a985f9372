-- `hex_digits::capital` meets its contract: the test is the definition's.
use mathlib.Core.Path.{sym}
use borrow.Author.Tests.{lt-ltb, le-ltb}
use Rattle.hex_digits.specs.Hex.{capital}
use Rattle.hex_digits.proofs.capital.Goals as goal

pub returns-then-d-lt10 : goal.returns-then-d-lt10
unfolding capital
returns-then-d-lt10 c = sym (rw (lt-ltb _ _ c.if-d-lt10.true))

pub returns-else-d-lt10 : goal.returns-else-d-lt10
unfolding capital
returns-else-d-lt10 c = sym (rw (le-ltb _ _ c.if-d-lt10.false))
