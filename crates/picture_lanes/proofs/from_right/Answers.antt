-- Tried at all 256 bytes (`right_is`).
use native.Mathlib.Omega.{arith}
use Rattle.picture_lanes.proofs.Spreads.{right_is}
use Rattle.picture_lanes.proofs.from_right.Goals as goal

pub returns : goal.returns
returns c = right_is _ (omega arith)
