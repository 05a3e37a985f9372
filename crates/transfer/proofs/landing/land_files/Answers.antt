-- The part is the front of the page, and all of it is written (`files_are`).
use Rattle.transfer.proofs.Parts.{files_are}
use Rattle.transfer.proofs.landing.land_files.Goals as goal

pub returns : goal.returns
returns c = files_are _ _ _ _ c.page.ensures c.requires.0 c.put.ensures
