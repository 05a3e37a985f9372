-- The parts lent are the unit's, and the shade is the byte.
use mathlib.Core.Path.{◌∙◌}
use Rattle.screen.specs.Colours.{colour_at}
use Rattle.block_picture.specs.Drawn.{shade_in}
use Rattle.block_picture.proofs.shade.Goals as goal

pub returns : goal.returns
unfolding shade_in
returns c =
    let e = c.colours.ensures in
    c.color_at.ensures
    ∙ (λ t. colour_at (e.of_palettes.0 t) (e.of_palettes.1 t) (e.of_byte t) (c.attributes.ensures.0 t) c.args.x c.args.y (c.from.ensures t))
