-- Each turn writes the grey of one pixel (`grey-at`).
use Rattle.std.proofs.Common.{refl, arith}
use lib.ListN.{length-set}
use Rattle.bits.proofs.Painting.{painted_none, painted_turn, painted_all, painted-count}
use Rattle.pages_drawn.specs.Graymap.{pixels}
use Rattle.pages_drawn.proofs.Shades.{grey-at}
use Rattle.pages_drawn.proofs.greys.Goals as goal

pub loop-k-init : goal.loop-k-init
loop-k-init c = (refl, painted_none)

pub loop-k-preserved : goal.loop-k-preserved
loop-k-preserved c =
    let l = c.loop-k in
    let a = c.args in
    let v = grey-at a.screen.now l.k _ _ c.pair_at.ensures.0 c.grey.ensures in
    (simp length-set l.invariant.0, painted_turn l.invariant.1 l.k c.grey.result (omega arith) v)

pub returns : goal.returns
returns c = painted_all (painted-count c.loop-k.invariant.1 pixels (omega arith)) (omega arith)
