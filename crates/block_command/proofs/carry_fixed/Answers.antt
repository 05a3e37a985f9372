-- Each arm knows which command it is, and its worker does that.
use mathlib.Core.Path.{◌∙◌}
use Rattle.commands.specs.Told.{told_fixed}
use Rattle.block_command.proofs.carry_fixed.Goals as goal

pub returns-in-PalSet : goal.returns-in-PalSet
unfolding told_fixed
returns-in-PalSet c = c.pal_set.ensures ∙ rw c.in-PalSet.is

pub returns-in-AttrSet : goal.returns-in-AttrSet
unfolding told_fixed
returns-in-AttrSet c = c.attr_set.ensures ∙ rw c.in-AttrSet.is

pub returns-in-Freeze : goal.returns-in-Freeze
unfolding told_fixed
returns-in-Freeze c = c.freeze.ensures ∙ rw c.in-Freeze.is

pub returns-in-Transfer : goal.returns-in-Transfer
unfolding told_fixed
returns-in-Transfer c = c.send.ensures ∙ rw c.in-Transfer.is
