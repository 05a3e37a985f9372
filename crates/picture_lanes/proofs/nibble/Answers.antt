-- A shift and a mask of four bits.
use Prim.Native.Nat.{◌*◌, ◌/◌, ◌^◌}
use lib.Bits.{and_mask, mask_lt}
use borrow.Author.Rules.{Fits-under}
use Rattle.picture_lanes.specs.Lanes.{lane}
use Rattle.picture_lanes.proofs.nibble.Goals as goal

pub overflow_cast-result-2 : goal.overflow_cast-result-2
overflow_cast-result-2 c = Fits-under _ _ 16 (mask_lt (c.args.l / 2 ^ (4 * c.args.j)) 4) tt

pub returns : goal.returns
unfolding lane
returns c =
    let q = c.args.l / 2 ^ (4 * c.args.j) in
    (and_mask q 4, mask_lt q 4)
