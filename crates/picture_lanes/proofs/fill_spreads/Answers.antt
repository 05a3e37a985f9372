-- The two halves are one run, which is the whole table.
use Prim.Native.Nat.{◌+◌}
use native.Mathlib.Nat.{zero-add}
use mathlib.Core.Path.{refl, sym, ap}
use Rattle.bits.proofs.Painting.{painted-run, painted_same, painted_all}
use Rattle.picture_lanes.specs.Lanes.{spread_of}
use Rattle.picture_lanes.proofs.fill_spreads.Goals as goal

pub returns : goal.returns
returns c =
    let run = painted-run c.fill_half.ensures c.fill_half-2.ensures refl (λ i h. ap spread_of (sym (zero-add (256 + i)))) in
    painted_all (painted_same run spread_of (λ i h. ap spread_of (zero-add i))) c.requires
