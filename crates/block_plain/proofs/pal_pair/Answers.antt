-- The palettes that come back go into the block whose preset has ended.
use Rattle.block_plain.proofs.Carried.{pair_put}
use Rattle.block_plain.proofs.pal_pair.Goals as goal

pub returns : goal.returns
returns c =
    let start = c in
    pair_put _ start.requires.0 _ _ start.requires.2 start.requires.3 _ _ _ start.requires.1.least c.end_preset.ensures c.pal_pair.ensures
