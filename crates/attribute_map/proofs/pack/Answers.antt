-- Each turn stores the byte of the next four cells.
use mathlib.Core.Path.{sym, ◌∙◌}
use native.Mathlib.Nat.{add-zero, zero-add}
use native.Mathlib.Omega.{arith}
use borrow.Author.Rules.{rules}
use Rattle.parts.specs.Parts.{map_bytes}
use Rattle.bits.proofs.Painting.{painted-count, painted_none, painted_turn, painted_all, painted-length}
use Rattle.bits.specs.Pair.{packed}
use Rattle.attribute_map.specs.Map.{pack}
use Rattle.attribute_map.proofs.pack.Goals as goal

pub loop-i-init : goal.loop-i-init
loop-i-init c = (search rules, painted_none)

pub loop-i-preserved : goal.loop-i-preserved
unfolding packed
loop-i-preserved c = (search rules, painted_turn c.loop-i.invariant.1 _ _ (sym (zero-add _)) (c.four.ensures ∙ simp add-zero))

pub shape_of-bytes : goal.shape_of-bytes
shape_of-bytes c = painted-length c.loop-i.invariant.1

pub returns : goal.returns
unfolding pack
returns c = painted_all (painted-count c.loop-i.invariant.1 map_bytes (omega arith)) (search rules)
