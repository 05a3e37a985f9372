-- By what is told.
use mathlib.Core.Path.{refl}
use native.Mathlib.Omega.{arith}
use Rattle.log_chunks.proofs.Coded.{told-few, tells-nothing, tells-command, tells-refused}
use Rattle.log_chunks.proofs.tell.Goals as goal

pub tell_command-requires : goal.tell_command-requires
tell_command-requires c =
    let start = c in
    record { n_bound = (told-few start.args.step.told _ c.in-Command.is start.requires.told_fits.0, start.requires.told_fits.1.0); step_room_in_bounds = start.requires.step_room_in_bounds }

pub returns-in-Nothing : goal.returns-in-Nothing
returns-in-Nothing c =
    let k = tells-nothing c.args.step.told c.args.step.reading c.args.command.now c.args.out.now _ c.args.at _ c.in-Nothing.is refl refl in
    record { value = k.0; upper_bound = omega arith; out_after = k.1 }

pub returns-in-Command : goal.returns-in-Command
returns-in-Command c =
    let t = c.tell_command in
    let k = tells-command c.args.step.told c.args.step.reading c.args.command.now c.args.out.now _ c.args.at _ _ c.in-Command.is t.ensures.value t.ensures.out_after in
    record { value = k.0; upper_bound = t.ensures.upper_bound; out_after = k.1 }

pub returns-in-Refused : goal.returns-in-Refused
returns-in-Refused c =
    let t = c.refusal_line in
    let k = tells-refused c.args.step.told c.args.step.reading c.args.command.now c.args.out.now _ c.args.at _ c.in-Refused.is t.ensures.value t.ensures.out_after in
    record { value = k.0; upper_bound = omega (arith, t.ensures.upper_bound); out_after = k.1 }
