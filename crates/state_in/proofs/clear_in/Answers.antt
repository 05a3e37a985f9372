-- The part is as long as it is said to be.
use mathlib.Core.List.{List}
use mathlib.Core.Path.{ap, ◌∙◌}
use Prim.Native.Nat.{ℕ, ◌-◌}
use native.Mathlib.Omega.{arith}
use lib.ListN.{replicate}
use Rattle.bits.specs.Over.{over}
use Rattle.bits.proofs.Overs.{length_part}
use Rattle.state_in.proofs.clear_in.Goals as goal

pub returns : goal.returns
returns c = let a = c.args in
    let n = a.to - a.from in
    ap (λ (l : List ℕ). over a.from n l a.block.now) (c.clear.ensures ∙ ap (λ (k : ℕ). replicate k 0) (length_part a.from n a.block.now (omega arith)))
