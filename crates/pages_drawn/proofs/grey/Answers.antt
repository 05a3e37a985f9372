-- By the definition; it fits a byte.
use native.Mathlib.Omega.{arith}
use Rattle.pages_drawn.specs.Graymap.{grey_of}
use Rattle.pages_drawn.proofs.grey.Goals as goal

pub returns : goal.returns
unfolding grey_of
returns c = omega arith
