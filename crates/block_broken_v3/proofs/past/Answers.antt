-- Behind seven packets the store is empty; else a part of it is a part of the block.
use mathlib.Core.Path.{ap, ◌∙◌}
use Prim.Native.Nat.{◌+◌, ◌*◌, ◌≤◌}
use native.Mathlib.Omega.{arith}
use lib.ListN.{length, length-take, drop_of_length-le}
use Rattle.parts.specs.Parts.{store_at, store_bytes}
use Rattle.bits.specs.Over.{part}
use Rattle.bits.proofs.Overs.{drop-part}
use Rattle.broken.specs.Broken.{zero_from, lowest}
use Rattle.block_found.specs.Found.{found_told}
use Rattle.block_broken_v3.proofs.past.Goals as goal

pub returns-then-received-gt7 : goal.returns-then-received-gt7
unfolding found_told zero_from lowest
returns-then-received-gt7 c =
    let b = c.args.front.bytes.now in
    let r = c.args.received in
    let s : length (part store_at store_bytes b) ≤ store_bytes = simp length-take (omega arith) in
    rw (drop_of_length-le (part store_at store_bytes b) {i = 16 * r} (omega arith))

pub returns : goal.returns
returns c =
    let b = c.args.front.bytes.now in
    let r = c.args.received in
    c.set_in.ensures ∙ rw c.from.ensures (ap (λ l. lowest (zero_from (store_at + 16 * r) l)) (drop-part b store_at store_bytes (16 * r)))
