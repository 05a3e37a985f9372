-- `hex_digits::digit` meets its contract: its masks and tests are tried at every byte.
use mathlib.Core.Path.{sym, ◌∙◌}
use borrow.Author.Tests.{lt-ltb, le-ltb, eq-eqb, ne_eqb}
use native.Mathlib.Omega.{arith}
use Rattle.hex_digits.proofs.Digits.{masked, masked_is}
use Rattle.hex_digits.proofs.digit.Goals as goal

pub returns-then-number-lt10 : goal.returns-then-number-lt10
unfolding masked
returns-then-number-lt10 c = sym (rw (lt-ltb _ _ c.if-number-lt10.true)) ∙ masked_is c.args.b (omega arith)

pub returns-then-letter-eq0 : goal.returns-then-letter-eq0
unfolding masked
returns-then-letter-eq0 c = sym (rw (le-ltb _ _ c.if-number-lt10.false, eq-eqb _ _ c.if-letter-eq0.true)) ∙ masked_is c.args.b (omega arith)

pub returns-then-letter-lt7 : goal.returns-then-letter-lt7
unfolding masked
returns-then-letter-lt7 c =
    sym (rw (le-ltb _ _ c.if-number-lt10.false, ne_eqb _ _ c.if-letter-eq0.false, lt-ltb _ _ c.if-letter-lt7.true))
    ∙ masked_is c.args.b (omega arith)

pub returns : goal.returns
unfolding masked
returns c =
    sym (rw (le-ltb _ _ c.if-number-lt10.false, ne_eqb _ _ c.if-letter-eq0.false, le-ltb _ _ c.if-letter-lt7.false))
    ∙ masked_is c.args.b (omega arith)
