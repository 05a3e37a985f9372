-- The block that the capture leaves is valid, and what lands goes into it.
use Rattle.block_screen.proofs.Landings.{captured-valid, all_shown}
use Rattle.block_screen.proofs.show.Goals as goal

pub land-requires : goal.land-requires
land-requires c =
    let start = c in
    (captured-valid _ start.requires.0 _ _ start.requires.1 c.capture-landed.ensures.1, start.requires.1)

pub returns : goal.returns
returns c =
    let start = c in
    let first = c.capture-landed.ensures in
    (first.0, all_shown _ start.requires.0 _ _ _ _ start.requires.1 first.0 first.1 c.land.ensures)
