-- A shift and a mask of two bits.
use Prim.Native.Nat.{◌-◌, ◌*◌, ◌/◌, ◌^◌}
use lib.Bits.{and_mask, mask_lt}
use Rattle.picture_runs.specs.Runs.{lane_shade}
use Rattle.picture_runs.proofs.shade.Goals as goal

pub returns : goal.returns
unfolding lane_shade
returns c =
    let q = c.args.s / 2 ^ (14 - 2 * c.args.j) in
    rw c.from.ensures (and_mask q 2, mask_lt q 2)
