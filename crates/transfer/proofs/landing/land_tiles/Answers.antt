-- The page is written straight into the part.
use Rattle.transfer.specs.Landing.{tiles_landed}
use Rattle.transfer.proofs.landing.land_tiles.Goals as goal

pub returns : goal.returns
unfolding tiles_landed
returns c = c.page.ensures
