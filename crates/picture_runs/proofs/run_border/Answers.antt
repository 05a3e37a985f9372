-- Each turn writes the next pixel, from its lane.
use Prim.Native.Nat.{ℕ, ◌+◌}
use mathlib.Core.Path.{refl, ap, ◌∙◌}
use lib.ListN.{get_or}
use Rattle.bits.proofs.Painting.{painted_none, painted_turn}
use Rattle.picture_runs.proofs.run_border.Goals as goal

pub loop-j-init : goal.loop-j-init
loop-j-init c = painted_none

pub loop-j-preserved : goal.loop-j-preserved
loop-j-preserved c =
    let l = c.loop-j in
    let a = c.args in
    painted_turn l.invariant _ _ refl (c.color_in.ensures ∙ ap (λ (i : ℕ). get_or a.border.now (a.base + i) 0) c.nibble-i.ensures.0)
