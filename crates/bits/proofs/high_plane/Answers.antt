-- `bits::high_plane` meets its contract: two halves make the plane byte.
use mathlib.Core.Path.{◌∙◌}
use native.Mathlib.Omega.{arith}
use Rattle.bits.proofs.Planes.{plane-halves, nibble-half}
use Rattle.bits.proofs.high_plane.Goals as goal

pub returns : goal.returns
returns c = let a = c.args.a in
    let b = c.args.b in
    plane-halves 1 a b _ _ (c.squeeze.ensures ∙ nibble-half a (omega arith)) (c.squeeze-2.ensures ∙ nibble-half b (omega arith))
