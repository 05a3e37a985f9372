-- The run, and then what it completed goes on.
use Rattle.block_writes.proofs.Blocks.{run-few, run-handed}
use Rattle.block_writes.proofs.run_on.Goals as goal

pub hand_over-requires : goal.hand_over-requires
hand_over-requires c =
    let start = c in
    let k = run-few start.args.mask start.args.lines.index start.args.start start.args.lines start.args.store.now start.args.writes.now c.run_fast-r.result _ start.requires.0 c.run_fast-r.ensures.ended in
    (k.0, (k.1, start.requires.1))

pub returns : goal.returns
returns c =
    let start = c in
    let r = c.run_fast-r in
    let k = run-handed _ r.result _ _ start.args.command.now _ r.ensures.ended r.ensures.completed c.hand_over.ensures.store_after c.hand_over.ensures.command_after in
    record { store_after = k.0; packets_value = r.ensures.completed; command_after = k.1 }
