-- The head, and the greys behind it.
use Rattle.pages_drawn.specs.Graymap.{graymap_head}
use Rattle.pages_drawn.proofs.Shades.{graymap_put}
use Rattle.pages_drawn.proofs.graymap.Goals as goal

pub returns : goal.returns
unfolding graymap_head
returns c =
    let start = c in
    let first = c.put.ensures in
    graymap_put start.args.screen.now start.args.out.now _ _ start.requires.1 first c.greys.ensures
