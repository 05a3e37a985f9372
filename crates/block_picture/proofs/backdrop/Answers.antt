-- The parts lent are the unit's.
use mathlib.Core.Path.{◌∙◌}
use Rattle.screen.specs.Colours.{backdrop_of}
use Rattle.block_picture.specs.Drawn.{backdrop_in}
use Rattle.block_picture.proofs.backdrop.Goals as goal

pub returns : goal.returns
unfolding backdrop_in
returns c =
    let e = c.colours.ensures in
    c.backdrop.ensures ∙ (λ t. backdrop_of (e.of_palettes.0 t) (e.of_palettes.1 t) (e.of_byte t))
