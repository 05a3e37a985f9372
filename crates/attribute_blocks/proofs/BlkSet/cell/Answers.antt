-- The answers of the calls are the definition's parts.
use mathlib.Core.Path.{◌∙◌}
use Rattle.attribute_blocks.specs.Blk.{blk_cell}
use Rattle.attribute_blocks.proofs.BlkSet.cell.Goals as goal

pub returns : goal.returns
unfolding blk_cell
returns c = c.pick.ensures ∙ rw (c.strictly-2.ensures, c.strictly.ensures, c.within-2.ensures, c.within.ensures)
