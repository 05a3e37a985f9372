-- One after the other.
use mathlib.Core.Path.{ap, sym, ◌∙◌}
use Rattle.state_cells.specs.Cells.{palette_numbers}
use Rattle.state_spans.specs.Coming.{cells_fit}
use Rattle.state.proofs.cells_fit.Goals as goal

pub returns-then-palette_numbers : goal.returns-then-palette_numbers
unfolding cells_fit
returns-then-palette_numbers c =
    let map = sym (ap palette_numbers c.bytes_in.ensures) ∙ sym c.palette_numbers.ensures ∙ c.if-palette_numbers.true in
    rw map (c.palette_numbers-then-palette_numbers.ensures ∙ ap palette_numbers c.bytes_in-then-palette_numbers.ensures)

pub returns-else-palette_numbers : goal.returns-else-palette_numbers
unfolding cells_fit
returns-else-palette_numbers c =
    let map = sym (ap palette_numbers c.bytes_in.ensures) ∙ sym c.palette_numbers.ensures ∙ c.if-palette_numbers.false in
    rw map c.if-palette_numbers.false
