-- The page is written straight into the part.
use Rattle.transfer.specs.Landing.{palettes_landed}
use Rattle.transfer.proofs.landing.land_palettes.Goals as goal

pub returns : goal.returns
unfolding palettes_landed
returns c = c.page.ensures
