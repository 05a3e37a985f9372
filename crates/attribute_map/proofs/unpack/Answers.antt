-- Every cell is its pair of the bytes, whatever it held.
use borrow.Author.Rules.{rules}
use Rattle.attribute_map.specs.Map.{packed_cell, unpack}
use Rattle.attribute_map.proofs.unpack.Goals as goal

pub returns : goal.returns
unfolding unpack
returns c = c.changed.ensures (λ x y old. packed_cell c.args.bytes.now x y) (λ x y old new p. search rules)
