-- The four bits are read where the definition has them; each is below 2.
use Prim.Native.Nat.{◌+◌, ◌*◌}
use native.Mathlib.Omega.{arith}
use Rattle.border.specs.Tile.{index_in}
use Rattle.border.proofs.index_in.Goals as goal

pub returns : goal.returns
unfolding index_in
returns c =
    let a = c.args in
    ((λ i. c.bit.ensures.0 i + c.bit-2.ensures.0 i * 2 + c.bit-3.ensures.0 i * 4 + c.bit-4.ensures.0 i * 8), omega arith)
