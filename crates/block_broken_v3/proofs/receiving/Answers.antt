-- By whether a packet is in.
use borrow.Author.Tests.{eq-eqb, ne_eqb}
use mathlib.Core.Path.{ap₂, sym, ◌∙◌}
use Rattle.broken.specs.Broken.{asks_of, lower}
use Rattle.broken.proofs.Lowest.{lowest-append}
use Rattle.block_broken_v3.proofs.receiving.Goals as goal

pub returns-then-front-eq0 : goal.returns-then-front-eq0
unfolding asks_of
returns-then-front-eq0 c = rw (eq-eqb _ _ c.if-front-eq0.true) (c.lower.ensures ∙ ap₂ lower c.coming.ensures c.first.ensures ∙ sym (lowest-append _ _))

pub returns : goal.returns
unfolding asks_of
returns c = rw (ne_eqb _ _ c.if-front-eq0.false) (c.lower-2.ensures ∙ ap₂ lower c.coming-2.ensures c.later.ensures ∙ sym (lowest-append _ _))
