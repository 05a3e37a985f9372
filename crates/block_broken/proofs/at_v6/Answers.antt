-- The mask mode first, and the frozen capture's bytes exactly if byte 12 is 0.
use borrow.Author.Tests.{eq-eqb, ne_eqb}
use mathlib.Core.Path.{ap, ap₂, ◌∙◌}
use Rattle.parts.specs.Parts.{mask_at}
use Rattle.broken.specs.Broken.{asks6, asked, byte_of, lower, lowest}
use Rattle.broken.proofs.Lowest.{lower_none}
use Rattle.block_broken.proofs.at_v6.Goals as goal

pub returns-then-frozen_on-ne0 : goal.returns-then-frozen_on-ne0
unfolding asks6 lowest
returns-then-frozen_on-ne0 c = rw (ne_eqb _ _ c.if-frozen_on-ne0.true) (c.unless-mask.ensures ∙ ap (λ t. byte_of (asked mask_at t)) c.mask_allows.ensures ∙ lower_none _)

pub returns : goal.returns
unfolding asks6 lowest
returns c = rw (eq-eqb _ _ c.if-frozen_on-ne0.false) (c.lower.ensures ∙ ap₂ lower (c.unless-mask.ensures ∙ ap (λ t. byte_of (asked mask_at t)) c.mask_allows.ensures) c.set_in.ensures)
