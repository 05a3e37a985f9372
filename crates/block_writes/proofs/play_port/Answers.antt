-- The port's bytes out of the block, a run over them, and back.
use mathlib.Core.Path.{◌∙◌, ap}
use Rattle.receiver.specs.Store.{packets_if}
use Rattle.receiver_run.specs.Run.{Ended}
use Rattle.block_port.specs.Bytes.{handed}
use Rattle.block_writes.specs.Ran.{command_of}
use Rattle.block_writes.proofs.Blocks.{loaded-ready, loaded-runs, put-long, receiver-long, ran}
use Rattle.block_writes.proofs.play_port.Goals as goal

pub run_on-r-requires : goal.run_on-r-requires
run_on-r-requires c =
    let start = c in
    (loaded-ready start.args.block.now start.requires.0 c.load_receiver-rx.result c.load_lines-lines.result c.load_receiver-rx.ensures c.load_lines-lines.ensures, start.requires.1)

pub save_receiver-requires : goal.save_receiver-requires
save_receiver-requires c =
    let start = c in
    put-long start.args.block.now start.requires.0 c.load_receiver-rx.result c.load_lines-lines.result c.load_receiver-rx.ensures c.load_lines-lines.ensures start.args.writes.now c.run_on-r.result _ c.run_on-r.ensures.store_after

pub save_lines-requires : goal.save_lines-requires
save_lines-requires c =
    let start = c in
    receiver-long start.args.block.now start.requires.0 c.load_receiver-rx.result c.load_lines-lines.result c.load_receiver-rx.ensures c.load_lines-lines.ensures start.args.writes.now c.run_on-r.result _ c.run_on-r.ensures.store_after _ c.save_receiver.ensures

pub returns : goal.returns
returns c =
    let start = c in
    let b = start.args.block.now in
    let rx = c.load_receiver-rx in
    let lines = c.load_lines-lines in
    let r = c.run_on-r in
    let k = ran b start.requires.0 rx.result lines.result rx.ensures lines.ensures start.args.writes.now r.result _ r.ensures.store_after _ _ c.save_receiver.ensures c.save_lines.ensures in
    record { at_value = k.0; packets_value = r.ensures.packets_value ∙ ap (λ (e : Ended). packets_if e.packets) (loaded-runs b start.requires.0 rx.result lines.result rx.ensures lines.ensures start.args.writes.now); block_after = k.1; command_after = r.ensures.command_after ∙ ap (λ (e : Ended). handed (command_of e) start.args.command.now) (loaded-runs b start.requires.0 rx.result lines.result rx.ensures lines.ensures start.args.writes.now) }
