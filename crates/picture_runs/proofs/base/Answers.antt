-- A word that draws has palette 4, 5 or 6 (`base-drawn`).
use mathlib.Core.Path.{sym, ◌∙◌}
use native.Mathlib.Omega.{arith}
use Rattle.border.proofs.Entries.{drawn-palette}
use Rattle.picture_runs.proofs.Cells.{base-drawn, base_none}
use Rattle.picture_runs.proofs.base.Goals as goal

pub overflow_sub-palette : goal.overflow_sub-palette
overflow_sub-palette c =
    let d = drawn-palette _ (sym c.draws.ensures ∙ c.if-draws.true) in
    omega (arith, c.palette.ensures)

pub returns-then-draws : goal.returns-then-draws
returns-then-draws c = rw c.from.ensures (base-drawn _ _ c.palette.ensures (sym c.draws.ensures ∙ c.if-draws.true))

pub returns : goal.returns
returns c = (base_none _ (sym c.draws.ensures ∙ c.if-draws.false), omega arith)
