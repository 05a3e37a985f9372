-- Tried at all 256 bytes (`left_is`).
use native.Mathlib.Omega.{arith}
use Rattle.picture_lanes.proofs.Spreads.{left_is}
use Rattle.picture_lanes.proofs.from_left.Goals as goal

pub returns : goal.returns
returns c = left_is _ (omega arith)
