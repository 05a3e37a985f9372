-- The flag picks the row or the column, and each return is the case of the definition that its test leaves.
use mathlib.Core.Path.{◌≡◌}
use mathlib.Core.Bool.{cond}
use Prim.Native.Nat.{◌%◌}
use borrow.Author.Tests.{eq-eqb, ne_eqb}
use lib.Bits.{and_mask}
use Rattle.bits.specs.Bit.{bit_of}
use Rattle.bits.proofs.Masks.{bit-set, bit-clear, pair-mask}
use Rattle.attributes.specs.Lin.{lin_cell}
use Rattle.attributes.proofs.lin.cell.Goals.{then-b-ne0, else-b-ne0}
use Rattle.attributes.proofs.lin.cell.Goals as goal

pub returns-then-p-from : goal.returns-then-p-from
unfolding lin_cell
returns-then-p-from c =
    let s = c.args in
    let p : c.if-b-ne0.p ≡ cond (bit_of 7 s.b) s.y s.x =
    elim c.if-b-ne0.branch [ then-b-ne0 w ↦ rw (w.p-is, bit-set s.b 7 w.if-b-ne0.true) | else-b-ne0 w ↦ rw (w.p-is, bit-clear s.b 7 w.if-b-ne0.false) ] in
    let e : cond (bit_of 7 s.b) s.y s.x ≡ s.b % 32 = cc (and_mask s.b 5, p) in
    simp (eq-eqb _ _ e, pair-mask)

pub returns-else-p-from : goal.returns-else-p-from
unfolding lin_cell
returns-else-p-from c =
    let s = c.args in
    let p : c.if-b-ne0.p ≡ cond (bit_of 7 s.b) s.y s.x =
    elim c.if-b-ne0.branch [ then-b-ne0 w ↦ rw (w.p-is, bit-set s.b 7 w.if-b-ne0.true) | else-b-ne0 w ↦ rw (w.p-is, bit-clear s.b 7 w.if-b-ne0.false) ] in
    let h : cond (bit_of 7 s.b) s.y s.x ≡ s.b % 32 → ⊥ = λ e. c.if-p-from.false (cc (and_mask s.b 5, p, e)) in
    simp (ne_eqb _ _ h)
