-- Each turn stores the four pairs of a byte, one after the other.
use mathlib.Core.Path.{◌≡◌, ap, ◌∙◌}
use Prim.Native.Nat.{ℕ, ◌+◌, ◌*◌}
use native.Mathlib.Nat.{add-zero}
use native.Mathlib.Omega.{arith}
use Rattle.bits.proofs.Painting.{painted-count, painted_none, painted_turn, painted-tab}
use Rattle.state_cells.specs.Cells.{unpack_cells}
use Rattle.state_cells.proofs.Celling.{pair-at}
use Rattle.state_cells.proofs.unpack_cells.Invariants.{pair_in}
use Rattle.state_cells.proofs.unpack_cells.Goals as goal

two-more : (n : ℕ) → n + 2 ≡ n + 1 + 1
two-more n = omega arith

three-more : (n : ℕ) → n + 3 ≡ n + 1 + 1 + 1
three-more n = omega arith

pub loop-i-init : goal.loop-i-init
loop-i-init c = painted_none

pub loop-i-preserved : goal.loop-i-preserved
loop-i-preserved c =
    let l = c.loop-i in
    let s = c.args.packed.now in
    let p1 = painted_turn l.invariant (4 * l.i) _ (omega arith) (c.pair.ensures ∙ pair-at s l.i 0 (omega arith) ∙ simp add-zero) in
    let p2 = painted_turn p1 (4 * l.i + 1) _ (omega arith) (c.pair-in-loop-i.ensures ∙ pair-at s l.i 1 (omega arith)) in
    let p3 = painted_turn p2 (4 * l.i + 2) _ (omega arith) (c.pair-in-loop-i-2.ensures ∙ pair-at s l.i 2 (omega arith) ∙ ap (pair_in s) (two-more (4 * l.i))) in
    let p4 = painted_turn p3 (4 * l.i + 3) _ (omega arith) (c.pair-in-loop-i-3.ensures ∙ pair-at s l.i 3 (omega arith) ∙ ap (pair_in s) (three-more (4 * l.i))) in
    painted-count p4 (4 * (l.i + 1)) (omega arith)

pub returns : goal.returns
unfolding unpack_cells
returns c = painted-tab (painted-count c.loop-i.invariant _ (omega arith)) (omega arith)
