-- A freeze is fixed, and every other mode plain, whatever the bytes.
use Rattle.std.proofs.Common.{eq-eqb, ne_eqb}
use Rattle.commands.specs.Command.{masking}
use Rattle.commands.specs.Told.{told, told_plain, told_fixed}
use Rattle.commands.proofs.decoding.masking.Goals as goal

pub returns-then-mode-eq1 : goal.returns-then-mode-eq1
unfolding masking told told_fixed
returns-then-mode-eq1 c = λ d. simp (eq-eqb _ _ c.if-mode-eq1.true)

pub returns-else-mode-eq1 : goal.returns-else-mode-eq1
unfolding masking told told_plain
returns-else-mode-eq1 c = λ d. simp (ne_eqb _ _ c.if-mode-eq1.false)
