-- The table's entry for the byte, in the half for its side (`read_left`, `read_right`).
use native.Mathlib.Omega.{arith}
use Rattle.picture_lanes.proofs.Spreads.{spread-long, read_left, read_right}
use Rattle.picture_lanes.proofs.spread_at.Goals as goal

pub bounds-spreads-from : goal.bounds-spreads-from
bounds-spreads-from c = omega (arith, spread-long _ c.requires)

pub bounds-spreads-from-else-right : goal.bounds-spreads-from-else-right
bounds-spreads-from-else-right c = omega (arith, spread-long _ c.requires)

pub returns-then-right : goal.returns-then-right
returns-then-right c =
    let a = c.args in
    rw c.if-right.true (read_right a.spreads.now a.b c.from.result c.requires c.from.ensures (omega (arith, c.from.ensures)))

pub returns-else-right : goal.returns-else-right
returns-else-right c =
    let a = c.args in
    rw c.if-right.false (read_left a.spreads.now a.b c.from-else-right.result c.requires c.from-else-right.ensures (omega (arith, c.from-else-right.ensures)))
