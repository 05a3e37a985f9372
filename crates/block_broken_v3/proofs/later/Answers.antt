-- What is asked, one after the other; the count is that of the store's first byte.
use mathlib.Core.Path.{ap, ap₂, ◌∙◌}
use lib.Dec.{eqb}
use lib.ListN.{get_or}
use Rattle.parts.specs.Parts.{expected_at}
use Rattle.broken.specs.Broken.{later, asked, byte_of, lower, lowest}
use Rattle.block_broken_v3.proofs.later.Goals as goal

pub returns : goal.returns
unfolding later lowest
returns c = c.lower.ensures ∙ ap₂ lower c.unless-3.ensures (c.lower-due.ensures ∙ ap₂ lower c.unless-2.ensures (c.lower-few.ensures ∙ ap₂ lower c.at_most.ensures (c.lower-counted.ensures ∙ ap₂ lower (c.unless.ensures ∙ ap (λ n. byte_of (asked expected_at (eqb (get_or c.args.front.bytes.now expected_at 0) n))) c.packet_count-count.ensures) c.past.ensures)))
