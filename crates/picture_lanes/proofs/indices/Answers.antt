-- A word that draws shows its tile's row, flipped as it says (`all_lanes`); any other sets no lane (`no-lanes`).
use Prim.Native.Nat.{◌≤◌}
use mathlib.Core.Bool.{Bool}
use mathlib.Core.Path.{sym, ap, ◌∙◌}
use native.Mathlib.Omega.{arith}
use lib.ListN.{length}
use Rattle.border.specs.Border.{flipped}
use Rattle.border.proofs.Entries.{drawn-tile, tile-long}
use Rattle.picture_lanes.proofs.Spreads.{all_lanes, no-lanes}
use Rattle.picture_lanes.proofs.indices.Goals as goal

pub indices_in-requires : goal.indices_in-requires
indices_in-requires c =
    let d = drawn-tile _ (sym c.draws.ensures ∙ c.if-draws.true) in
    let n : c.from-n.result ≤ 255 = omega (arith, c.tile.ensures, c.from-n.ensures) in
    record { tile_len = (ap length c.tile-then-draws.ensures ∙ tile-long _ _ c.requires.tiles_len.0 n, c.flipped.ensures.1); spreads_value = c.requires.spreads_value }

pub returns-then-draws : goal.returns-then-draws
returns-then-draws c =
    let a = c.args in
    let row = c.flipped.ensures.0 ∙ ap (λ (f : Bool). flipped f a.y) c.flip_y-flip_y.ensures in
    all_lanes a.tiles.now _ a.entry.0 a.y _ _ _ _ (sym c.draws.ensures ∙ c.if-draws.true) (c.from-n.ensures ∙ c.tile.ensures) c.tile-then-draws.ensures row c.flip_x-right.ensures c.indices_in.ensures

pub returns : goal.returns
returns c = no-lanes _ _ _ (sym c.draws.ensures ∙ c.if-draws.false)
