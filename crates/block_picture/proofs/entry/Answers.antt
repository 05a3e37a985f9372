-- The map lent is the unit's.
use mathlib.Core.Path.{◌∙◌}
use Rattle.border.specs.Border.{entry_at}
use Rattle.block_picture.proofs.entry.Goals as goal

pub returns : goal.returns
returns c = c.map_entry.ensures ∙ (λ t. entry_at (c.map.ensures.0 t) c.args.column c.args.row)
