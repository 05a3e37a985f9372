use mathlib.Core.Bool.{◌&&◌}
use mathlib.Core.Path.{◌≡◌}
use lib.Dec.{eqb}
use lib.ListN.{drop}
use Rattle.state_cells.specs.Cells.{palette_numbers}
use Rattle.state_cells.proofs.palette_numbers.Given as goal

abbrev pub invariant-loop-cell : goal.invariant-loop-cell
invariant-loop-cell l = palette_numbers l.cells ≡ (eqb l.all 0 && palette_numbers (drop l.cell-index l.cells))
