-- Under a mask of low bits the rises are a sum, under 2 the first decides, and else they are counted one by one.
use mathlib.Core.Path.{◌≡◌, refl, sym, ap, ap₂, ◌∙◌}
use Prim.Native.Nat.{ℕ, ◌+◌, ◌%◌}
use native.Mathlib.Omega.{arith}
use lib.Bits.{bit_and, and_mask, and_le_r}
use Rattle.receiver.specs.Rises.{rises}
use Rattle.receiver.proofs.Rises.{rises-low, rises-two, rises_next}
use Rattle.receiver_polling.proofs.index_rises.Goals as goal

pub returns-then-n-eq0 : goal.returns-then-n-eq0
unfolding rises
returns-then-n-eq0 c = rw c.if-n-eq0.true

pub returns-in-0 : goal.returns-in-0
returns-in-0 c = rw c.in-0.is (sym (rises-low 0 c.args.n c.args.index c.if-n-eq0.false ∙ omega arith))

pub returns-in-1 : goal.returns-in-1
returns-in-1 c =
    let x = c.args.index in
    let n = c.args.n in
    let e : (x % 2 + n % 2) % 2 ≡ (x + n) % 2 = omega arith in
    rw c.in-1.is (and_mask (bit_and x 1 + bit_and n 1) 1 ∙ ap₂ (λ (y z : ℕ). (y + z) % 2) (and_mask x 1) (and_mask n 1) ∙ e ∙ sym (rises-low 1 n x c.if-n-eq0.false))

pub returns-in-2 : goal.returns-in-2
returns-in-2 c = rw c.in-2.is (sym (rises-two c.args.n c.args.index c.if-n-eq0.false))

pub returns-in-3 : goal.returns-in-3
returns-in-3 c =
    let x = c.args.index in
    let n = c.args.n in
    let e : (x % 4 + n % 4) % 4 ≡ (x + n) % 4 = omega arith in
    rw c.in-3.is (and_mask (bit_and x 3 + bit_and n 3) 2 ∙ ap₂ (λ (y z : ℕ). (y + z) % 4) (and_mask x 2) (and_mask n 2) ∙ e ∙ sym (rises-low 2 n x c.if-n-eq0.false))

pub loop-init : goal.loop-init
unfolding rises
loop-init c = (c.requires.0, refl)

pub loop-preserved : goal.loop-preserved
loop-preserved c =
    (omega (arith, and_le_r (c.loop.x + 1) c.args.mask), ap (λ (y : ℕ). bit_and (y + 1) c.args.mask) c.loop.invariant.1 ∙ rises_next _ _ _)

pub returns-after-loop : goal.returns-after-loop
returns-after-loop c = let e : c.loop.counter ≡ c.args.n = omega arith in rw (sym e) c.loop.invariant.1
