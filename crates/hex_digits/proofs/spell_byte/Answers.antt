-- `hex_digits::spell_byte` meets its contract: the shift and the mask are the quotient and the rest by 16, and both digits are put in place.
use mathlib.Core.Path.{ap, ◌∙◌}
use native.Mathlib.Omega.{arith}
use lib.Bits.{and_mask, mask_lt}
use lib.ListN.{length-set}
use Rattle.hex_digits.specs.Hex.{capital}
use Rattle.hex_digits.proofs.Writing.{byte_put}
use Rattle.hex_digits.proofs.spell_byte.Goals as goal

pub capital-requires-2 : goal.capital-requires-2
capital-requires-2 c = mask_lt c.args.b 4

pub bounds-out-at-2 : goal.bounds-out-at-2
bounds-out-at-2 c = simp length-set (omega arith)

pub shape_of-out : goal.shape_of-out
shape_of-out c = simp length-set

pub returns : goal.returns
returns c =
    let start = c.args in
    byte_put start.b start.at _ _ start.out.now (omega arith) c.capital.ensures (c.capital-2.ensures ∙ ap capital (and_mask start.b 4))
