-- A shift and a mask of one bit.
use Prim.Native.Nat.{ℕ, ◌/◌, ◌%◌, ◌^◌}
use mathlib.Core.Path.{ap, ◌∙◌}
use lib.Bits.{and_mask, mask_lt}
use Rattle.bits.specs.Bit.{bit_at}
use Rattle.border.proofs.bit.Goals as goal

pub returns : goal.returns
unfolding bit_at
returns c =
    let q = c.from.result / 2 ^ c.args.k in
    (and_mask q 1 ∙ ap (λ (v : ℕ). v / 2 ^ c.args.k % 2) c.from.ensures, mask_lt q 1)
