-- The two bytes are counted down, and the screen is put in.
use Rattle.block_screen.proofs.Landings.{captured-put}
use Rattle.block_screen.proofs.capture.Goals as goal

pub returns : goal.returns
returns c =
    let start = c in
    let counted = c.count_down-landed.ensures in
    (counted.0, captured-put _ start.requires.0 _ _ _ start.requires.1 counted.1 c.put.ensures)
