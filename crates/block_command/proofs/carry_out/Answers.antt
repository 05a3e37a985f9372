-- What was decoded says which command it is, and its part carries it out.
use mathlib.Core.Path.{ap, ◌∙◌}
use Rattle.commands.specs.Command.{Command}
use Rattle.block_plain.specs.Carrying.{carried_block}
use Rattle.block_command.proofs.Told.{plain-told, fixed_told, plain-good}
use Rattle.block_command.proofs.carry_out.Goals as goal

pub carry_plain-requires : goal.carry_plain-requires
carry_plain-requires c =
    let start = c in
    (start.requires.0, start.requires.1, plain-good _ _ start.requires.1 (plain-told _ _ _ c.in-Plain.is c.decode.ensures))

pub returns-in-Plain : goal.returns-in-Plain
returns-in-Plain c =
    c.carry_plain.ensures
    ∙ ap (λ (k : Command). carried_block k c.args.block.now) (plain-told _ _ _ c.in-Plain.is c.decode.ensures)

pub returns-in-Fixed : goal.returns-in-Fixed
returns-in-Fixed c =
    c.carry_fixed.ensures
    ∙ ap (λ (k : Command). carried_block k c.args.block.now) (fixed_told _ _ _ c.in-Fixed.is c.decode.ensures)
