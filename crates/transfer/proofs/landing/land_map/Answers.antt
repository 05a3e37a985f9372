-- The two copies fill the part, one after the other (`map_is`).
use Rattle.transfer.proofs.Parts.{map_is}
use Rattle.transfer.proofs.landing.land_map.Goals as goal

pub returns : goal.returns
returns c = map_is _ _ _ _ _ c.page.ensures c.requires.0 c.put.ensures c.put-2.ensures
