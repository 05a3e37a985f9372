-- Each turn writes the next pixel, from its lane and its shade.
use Prim.Native.Nat.{ℕ, ◌+◌}
use mathlib.Core.Path.{refl, ap₂, ◌∙◌}
use mathlib.Core.Bool.{cond}
use lib.Dec.{eqb}
use lib.ListN.{get_or}
use Rattle.bits.proofs.Painting.{painted_none, painted_turn}
use Rattle.picture_runs.specs.Runs.{run_pixel}
use Rattle.picture_runs.proofs.run_both.Goals as goal

pub loop-j-init : goal.loop-j-init
loop-j-init c = painted_none

pub loop-j-preserved : goal.loop-j-preserved
loop-j-preserved c =
    let l = c.loop-j in
    let a = c.args in
    let shade = c in
    let nibble = shade in
    let seen =
    c.over.ensures
    ∙ (λ t. cond (eqb nibble.nibble-i.result 0) (c.color_in-in-loop-j.ensures t) (c.color_in.ensures t))
    ∙ ap₂ (λ (i h : ℕ). run_pixel i a.border.now a.base (get_or a.game.now (a.n + h) 0)) nibble.nibble-i.ensures.0 shade.shade-h.ensures.0 in
    painted_turn l.invariant _ _ refl seen
