-- `bits::low_plane` meets its contract: two halves make the plane byte.
use Rattle.bits.proofs.Planes.{plane-halves}
use Rattle.bits.proofs.low_plane.Goals as goal

pub returns : goal.returns
returns c = plane-halves 0 _ _ _ _ c.squeeze.ensures c.squeeze-2.ensures
