-- Its bit, by a shift and a mask.
use mathlib.Core.Path.{sym, ap, ◌∙◌}
use Prim.Native.Nat.{ℕ, ◌/◌, ◌^◌}
use borrow.Author.Tests.{eq-eqb, ne_eqb}
use lib.Bits.{and_mask}
use lib.Dec.{eqb}
use Rattle.bits.specs.Bit.{bit_of}
use Rattle.state_spans.proofs.span_if.Goals as goal

pub returns-then-present-k-eq1 : goal.returns-then-present-k-eq1
unfolding bit_of
returns-then-present-k-eq1 c =
    let e = sym (ap (λ (m : ℕ). eqb m 1) (and_mask (c.args.present / 2 ^ c.args.k) 1)) ∙ eq-eqb _ _ c.if-present-k-eq1.true in
    rw e

pub returns-else-present-k-eq1 : goal.returns-else-present-k-eq1
unfolding bit_of
returns-else-present-k-eq1 c =
    let e = sym (ap (λ (m : ℕ). eqb m 1) (and_mask (c.args.present / 2 ^ c.args.k) 1)) ∙ ne_eqb _ _ c.if-present-k-eq1.false in
    rw e
