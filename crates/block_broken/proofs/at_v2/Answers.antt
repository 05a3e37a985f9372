-- What is asked, one after the other.
use mathlib.Core.Path.{ap, ap₂, ◌∙◌}
use Rattle.parts.specs.Parts.{p15_at}
use Rattle.broken.specs.Broken.{asks2, asked, byte_of, lower, lowest}
use Rattle.block_broken.proofs.at_v2.Goals as goal

pub returns : goal.returns
unfolding asks2 lowest
returns c = c.lower.ensures ∙ ap₂ lower c.at_most-4.ensures (c.lower-both.ensures ∙ ap₂ lower c.at_most-3.ensures (c.lower-preset.ensures ∙ ap₂ lower c.at_most-2.ensures (c.lower-frozen.ensures ∙ ap₂ lower c.at_most.ensures (c.lower-spare.ensures ∙ ap₂ lower (c.unless-lines.ensures ∙ ap (λ t. byte_of (asked p15_at t)) c.lines_agree-agree.ensures) c.set_in.ensures))))
