-- That row of V3 (RULES 1.8) test by test; the store's parts are parts of the block.
use native.Mathlib.Omega.{arith}
use Prim.Native.Nat.{◌*◌}
use lib.Dec.{lit<}
use lib.ListN.{get_or}
use Rattle.std.proofs.lemmas.Bool.Decides.{nat_tests}
use Rattle.parts.specs.Parts.{store_at, store_bytes, received_at}
use Rattle.bits.proofs.Overs.{get_or-part, drop-part}
use Rattle.layout.specs.Block.{load}
use Rattle.receiver.specs.Valid.{later}
use Rattle.block_receiver.proofs.some_in.Goals as goal

pub returns-then-expected-packet_count : goal.returns-then-expected-packet_count
unfolding later load
returns-then-expected-packet_count c =
    let b = c.args.front.bytes.now in
    grind (arith, nat_tests, get_or-part store_at store_bytes b 0 (lit< tt), drop-part b store_at store_bytes (16 * get_or b received_at 0))

pub returns-else-expected-packet_count : goal.returns-else-expected-packet_count
unfolding later load
returns-else-expected-packet_count c = grind (arith, nat_tests, get_or-part store_at store_bytes c.args.front.bytes.now 0 (lit< tt))
