-- The four planes, each spread over the lanes, weighed 1, 2, 4 and 8 (`four_planes`).
use Rattle.picture_lanes.proofs.Spreads.{four_planes}
use Rattle.picture_lanes.proofs.indices_in.Goals as goal

pub returns : goal.returns
returns c =
    let a = c.args in
    four_planes a.tile.now a.row a.right _ _ _ _ c.spread_at-a.ensures.0 c.spread_at-b.ensures.0 c.spread_at-c.ensures.0 c.spread_at-d.ensures.0
