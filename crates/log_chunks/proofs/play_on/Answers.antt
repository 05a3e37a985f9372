-- What was played is the step.
use native.Mathlib.Omega.{arith}
use Rattle.log_chunks.specs.Steps.{desk_of}
use Rattle.log_chunks.proofs.Coded.{played-within, played-answer, played-desk}
use Rattle.log_chunks.proofs.play_on.Goals as goal

pub overflow_add-result : goal.overflow_add-result
overflow_add-result g c =
    let w = played-within c.args.reading (desk_of c.args.desk.now) c.args.at c.play-p.result.at c.requires.from_le_upto.0 c.requires.from_le_upto.1 c.play-p.ensures.at_value in
    omega arith

pub returns : goal.returns
returns g c =
    let p = c.play-p in
    let r = c.args.reading in
    let d = desk_of c.args.desk.now in
    record {
      value = played-answer r d c.args.at p.result.at p.result.packets c.told_of.result p.ensures.at_value p.ensures.packets_value c.told_of.ensures;
      desk_after = played-desk r d c.args.at _ _ p.ensures.block_after p.ensures.command_after;
    }
