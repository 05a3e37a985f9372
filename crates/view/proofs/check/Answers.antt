-- The length, and then the rule that is broken, if one is.
use mathlib.Core.Path.{◌∙◌}
use borrow.Author.Tests.{eq-eqb, ne_eqb}
use Rattle.view.specs.Refusal.{refusal_of}
use Rattle.view.proofs.Refusals.{number-or_none}
use Rattle.view.proofs.check.Goals as goal

pub returns-then-block-ne-BLOCK : goal.returns-then-block-ne-BLOCK
unfolding refusal_of
returns-then-block-ne-BLOCK c = rw (ne_eqb _ _ c.if-block-ne-BLOCK.true)

pub returns : goal.returns
unfolding refusal_of
returns c = rw (eq-eqb _ _ c.if-block-ne-BLOCK.false) (c.broken.ensures ∙ number-or_none _ c.if-block-ne-BLOCK.false)
