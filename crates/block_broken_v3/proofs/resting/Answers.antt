-- What is asked, one after the other.
use native.Mathlib.Omega.{arith}
use mathlib.Core.Path.{ap, ap₂, ◌∙◌}
use Rattle.parts.specs.Parts.{packet_at, packet_bytes, store_bytes}
use Rattle.broken.specs.Broken.{resting, lower, lowest}
use Rattle.block_found.proofs.Firsts.{zero_beside}
use Rattle.block_broken_v3.proofs.resting.Goals as goal

pub returns : goal.returns
unfolding resting lowest
returns c =
    let b = c.args.front.bytes.now in
    c.lower.ensures
    ∙ ap₂ lower c.zero_at-3.ensures (c.lower-received.ensures
    ∙ ap₂ lower c.zero_at-2.ensures (c.lower-bits.ensures
    ∙ ap₂ lower c.zero_at.ensures (c.set_in-held.ensures
    ∙ ap lowest (zero_beside packet_at packet_bytes store_bytes b (omega arith)))))
