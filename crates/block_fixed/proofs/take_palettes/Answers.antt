-- The palettes that were chosen go into the block whose preset has ended.
use Rattle.block_fixed.proofs.Carried.{palettes-taken}
use Rattle.block_fixed.proofs.take_palettes.Goals as goal

pub returns : goal.returns
returns c =
    let start = c in
    palettes-taken _ start.requires.0 _ _ _ _ c.end_preset.ensures c.pal_set.ensures c.put.ensures
