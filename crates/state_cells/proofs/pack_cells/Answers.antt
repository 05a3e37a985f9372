-- Each turn stores the byte of the next four.
use mathlib.Core.Path.{refl, sym, ◌∙◌}
use native.Mathlib.Nat.{add-zero, zero-add}
use native.Mathlib.Omega.{arith}
use Rattle.bits.proofs.Painting.{painted-count, painted_none, painted_turn, painted_all}
use Rattle.bits.specs.Pair.{packed}
use Rattle.state_cells.specs.Cells.{pack_cells}
use Rattle.state_cells.proofs.pack_cells.Goals as goal

pub loop-i-init : goal.loop-i-init
loop-i-init c = painted_none

pub loop-i-preserved : goal.loop-i-preserved
unfolding packed
loop-i-preserved c = painted_turn c.loop-i.invariant _ _ (sym (zero-add _)) (c.four.ensures ∙ simp add-zero)

pub returns : goal.returns
unfolding pack_cells
returns c = painted_all (painted-count c.loop-i.invariant _ (omega arith)) refl
