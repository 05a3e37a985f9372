-- At mask 2 the wrapping sum is masked, else the index itself.
use Rattle.std.proofs.Common.{◌≡◌, ◌%◌, sym, ◌∙◌, eq-eqb, ne_eqb}
use Rattle.bits.proofs.Masks.{pair-mask}
use Rattle.commands.specs.Pads.{mlt_index, mlt_req}
use Rattle.commands.proofs.joypads.mlt_req.Goals.{then-mask-eq2, else-mask-eq2}
use Rattle.commands.proofs.joypads.mlt_req.Goals as goal

pub returns : goal.returns
unfolding mlt_req mlt_index
returns c =
    let s = c.args in
    elim c.if-mask-eq2.branch [
      | then-mask-eq2 w ↦
          let e : s.d1 % 4 ≡ 2 = sym (pair-mask s.d1) ∙ w.if-mask-eq2.true in
          simp (w.moved-is, pair-mask, eq-eqb _ _ e)
      | else-mask-eq2 w ↦
          let h : s.d1 % 4 ≡ 2 → ⊥ = λ e. w.if-mask-eq2.false (pair-mask s.d1 ∙ e) in
          simp (w.moved-is, pair-mask, ne_eqb _ _ h)
    ]
