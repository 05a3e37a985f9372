-- All that passed are palette numbers exactly if nothing is left of their OR past two bits.
use mathlib.Core.Path.{sym, ◌∙◌}
use native.Mathlib.Omega.{arith}
use Rattle.state_cells.proofs.Celling.{numbers_turn, numbers_end}
use Rattle.state_cells.proofs.palette_numbers.Goals as goal

pub loop-cell-preserved : goal.loop-cell-preserved
loop-cell-preserved c =
    let a = c.loop-cell in
    a.invariant ∙ numbers_turn c.args.cells.now a.cell-index a.all (omega arith)

pub returns : goal.returns
returns c =
    let a = c.loop-cell in
    sym (a.invariant ∙ numbers_end c.args.cells.now a.cell-index a.all (omega arith))
