-- `bits::pair` gives the pair of the byte at k / 4; a pair is below 4.
use Prim.Native.Nat.{◌/◌, ◌%◌}
use mathlib.Core.Path.{◌∙◌}
use native.Mathlib.Omega.{arith}
use lib.ListN.{get_or}
use Rattle.bits.proofs.Pairs.{pair_lt}
use Rattle.screen.specs.Packed.{pair_at}
use Rattle.screen.proofs.pair_at.Goals as goal

pub returns : goal.returns
unfolding pair_at
returns c = (c.from.ensures ∙ c.pair.ensures, omega (arith, c.from.ensures ∙ c.pair.ensures, pair_lt (get_or c.args.b.now (c.args.k / 4) 0) (c.args.k % 4)))
