-- The two bytes are the definition's, and no cell's outcome looks at what it held.
use borrow.Author.Rules.{rules}
use lib.ListN.{get_or}
use Rattle.attributes.specs.Div.{div_cell, div_map}
use Rattle.attributes.proofs.div.attr_div.Goals as goal

pub returns : goal.returns
unfolding div_map
returns c = let d = c.args.d.now in
    c.changed.ensures (λ x y old. div_cell (get_or d 1 0) (get_or d 2 0) x y) (λ x y old new p. search rules)
