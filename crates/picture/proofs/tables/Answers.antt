-- The border's table has the backdrop that was asked for.
use Prim.Native.Nat.{ℕ}
use mathlib.Core.Path.{ap, ◌∙◌}
use Rattle.bits.specs.Tab.{tab}
use Rattle.picture.specs.Tables.{border_color}
use Rattle.picture.proofs.tables.Goals as goal

pub returns-clause-border_after : goal.returns-clause-border_after
returns-clause-border_after c = c.border_colors.ensures ∙ ap (λ (k : ℕ). tab 48 (border_color c.args.borders.now k)) c.backdrop.ensures
