-- Each turn writes the next pixel, from its shade.
use Prim.Native.Nat.{ℕ, ◌+◌}
use mathlib.Core.Path.{refl, ap, ◌∙◌}
use lib.ListN.{get_or}
use Rattle.bits.proofs.Painting.{painted_none, painted_turn}
use Rattle.picture_runs.proofs.run_game.Goals as goal

pub loop-j-init : goal.loop-j-init
loop-j-init c = painted_none

pub loop-j-preserved : goal.loop-j-preserved
loop-j-preserved c =
    let l = c.loop-j in
    let a = c.args in
    painted_turn l.invariant _ _ refl (c.color_in.ensures ∙ ap (λ (h : ℕ). get_or a.game.now (a.n + h) 0) c.shade-h.ensures.0)
