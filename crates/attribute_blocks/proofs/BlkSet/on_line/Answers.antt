-- Each return is the case of the definition that its tests leave.
use native.Mathlib.Nat.{div-one}
use Rattle.bits.proofs.Masks.{bit-set, bit-clear, pair-mask}
use Rattle.attribute_blocks.specs.Blk.{on_line}
use Rattle.attribute_blocks.proofs.BlkSet.on_line.Goals as goal

pub returns-then-self-ne0 : goal.returns-then-self-ne0
unfolding on_line
returns-then-self-ne0 c = simp (bit-set c.args.self.control 1 c.if-self-ne0.true, pair-mask)

pub returns-in-true-false : goal.returns-in-true-false
unfolding on_line
returns-in-true-false c =
    let n = c.args.self.control in
    simp (bit-clear n 1 c.if-self-ne0.false, bit-set n 0 c.in-true-false.is-0, bit-clear n 2 c.in-true-false.is-1, pair-mask, div-one)

pub returns-in-false-true : goal.returns-in-false-true
unfolding on_line
returns-in-false-true c =
    let n = c.args.self.control in
    simp (bit-clear n 1 c.if-self-ne0.false, bit-clear n 0 c.in-false-true.is-0, bit-set n 2 c.in-false-true.is-1, pair-mask)

pub returns-in-true-true : goal.returns-in-true-true
unfolding on_line
returns-in-true-true c =
    let n = c.args.self.control in
    simp (bit-clear n 1 c.if-self-ne0.false, bit-set n 0 c.in-true-true.is-0, bit-set n 2 c.in-true-true.is-1)

pub returns-in-true-true-2 : goal.returns-in-true-true-2
unfolding on_line
returns-in-true-true-2 c =
    let n = c.args.self.control in
    simp (bit-clear n 1 c.if-self-ne0.false, bit-clear n 0 c.in-true-true.is-0, bit-clear n 2 c.in-true-true.is-1)
