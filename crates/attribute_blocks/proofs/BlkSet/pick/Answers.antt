-- Each return is the case of the definition that its tests leave.
use mathlib.Core.Path.{◌∙◌}
use native.Mathlib.Nat.{div-one}
use Rattle.bits.proofs.Masks.{bit-set, bit-clear, pair-mask}
use Rattle.attribute_blocks.specs.Blk.{blk_pick}
use Rattle.attribute_blocks.proofs.BlkSet.pick.Goals as goal

pub returns-then-self-ne0 : goal.returns-then-self-ne0
unfolding blk_pick
returns-then-self-ne0 c = simp (c.if-inner.true, bit-set c.args.self.control 0 c.if-self-ne0.true, pair-mask, div-one)

pub returns-else-self-ne0 : goal.returns-else-self-ne0
unfolding blk_pick
returns-else-self-ne0 c = simp (c.if-inner.true, bit-clear c.args.self.control 0 c.if-self-ne0.false)

pub returns-then-covered : goal.returns-then-covered
unfolding blk_pick
returns-then-covered c = c.on_line.ensures ∙ simp (c.if-inner.false, c.if-covered.true)

pub returns-then-self-ne0-2 : goal.returns-then-self-ne0-2
unfolding blk_pick
returns-then-self-ne0-2 c = simp (c.if-inner.false, c.if-covered.false, bit-set c.args.self.control 2 c.if-self-ne0-2.true, pair-mask)

pub returns-else-self-ne0-2 : goal.returns-else-self-ne0-2
unfolding blk_pick
returns-else-self-ne0-2 c = simp (c.if-inner.false, c.if-covered.false, bit-clear c.args.self.control 2 c.if-self-ne0-2.false)
