-- The flag picks the row or the column.
use mathlib.Core.Path.{◌∙◌}
use Rattle.bits.proofs.Masks.{bit-set, bit-clear}
use Rattle.attributes.specs.Div.{div_cell}
use Rattle.attributes.proofs.div.cell.Goals.{then-flags-ne0, else-flags-ne0}
use Rattle.attributes.proofs.div.cell.Goals as goal

pub returns : goal.returns
unfolding div_cell
returns c =
    c.side.ensures
    ∙ elim c.if-flags-ne0.branch [
      | then-flags-ne0 w ↦ rw (c.from.ensures, w.p-is, bit-set c.args.flags 6 w.if-flags-ne0.true)
      | else-flags-ne0 w ↦ rw (c.from.ensures, w.p-is, bit-clear c.args.flags 6 w.if-flags-ne0.false)
    ]
