-- The shade of a pixel by its bits in the two plane bytes, written out: what `bits` says by `shade_by`.
use Rattle.std.proofs.Common.{◌≡◌, ℕ, ◌+◌, ◌-◌, ◌*◌, ◌<◌}
use Rattle.bits.specs.Bit.{bit_at}
use Rattle.bits.specs.Plane.{shade_of, plane_of, shade_by}
use Rattle.bits.proofs.Planes.{shade_of_planes as by-planes}

pub shade_of_planes : (a b j : ℕ) → j < 8 → bit_at (7 - j) (plane_of 0 a b) + 2 * bit_at (7 - j) (plane_of 1 a b) ≡ shade_of a b j
unfolding shade_by
shade_of_planes a b j h = by-planes a b j h
