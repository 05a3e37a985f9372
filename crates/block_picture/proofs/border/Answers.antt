-- The parts lent are the unit's.
use mathlib.Core.Path.{◌∙◌}
use Rattle.border.specs.Border.{border_at}
use Rattle.block_picture.specs.Drawn.{border_in}
use Rattle.block_picture.proofs.border.Goals as goal

pub returns : goal.returns
unfolding border_in
returns c = c.color_at.ensures ∙ (λ t. border_at (c.tiles.ensures.0 t) (c.map.ensures.0 t) (c.borders.ensures.0 t) c.args.x c.args.y)
