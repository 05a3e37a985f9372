-- Two bytes of the header are the pads.
use Rattle.block_plain.proofs.Carried.{pads-changed}
use Rattle.block_plain.proofs.mlt_req.Goals as goal

pub returns : goal.returns
returns c = pads-changed _ c.requires _ _ c.mlt_req-pads.ensures
