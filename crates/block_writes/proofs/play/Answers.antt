-- The run, and then the command that it completed.
use mathlib.Core.Path.{◌∙◌, ap, sym}
use mathlib.Core.List.{List}
use mathlib.Core.Option.{Option}
use Prim.Native.Nat.{ℕ}
use Rattle.receiver.proofs.Completed.{none_zero, some_number}
use Rattle.block_port.specs.Bytes.{handed}
use Rattle.block_writes.proofs.Blocks.{played-at, played-packets, played-none, played-told, played-one, ran-valid}
use Rattle.block_writes.proofs.play.Goals as goal

pub carry_front-requires : goal.carry_front-requires
carry_front-requires c =
    let start = c in
    let p = c.play_port-p in
    let b = start.args.block.now in
    let ws = start.args.writes.now in
    let n = some_number c.in-Some.n _ (sym c.in-Some.is ∙ p.ensures.packets_value) in
    let k = played-one b ws _ start.requires.0 p.ensures.block_after c.in-Some.n start.args.command.now _ n.0 n.1 p.ensures.command_after in
    (ran-valid b ws _ start.requires.0 p.ensures.block_after, k.0, k.1.0)

pub returns-in-Some : goal.returns-in-Some
returns-in-Some c =
    let start = c in
    let p = c.play_port-p in
    let b = start.args.block.now in
    let ws = start.args.writes.now in
    let n = some_number c.in-Some.n _ (sym c.in-Some.is ∙ p.ensures.packets_value) in
    let k = played-one b ws _ start.requires.0 p.ensures.block_after c.in-Some.n start.args.command.now _ n.0 n.1 p.ensures.command_after in
    record { at_value = p.ensures.at_value ∙ played-at b ws _ start.requires.0 p.ensures.block_after; packets_value = p.ensures.packets_value ∙ played-packets b ws _ start.requires.0 p.ensures.block_after; block_after = k.1.1 _ c.carry_front.ensures; command_after = p.ensures.command_after ∙ ap (λ (o : Option (List ℕ)). handed o start.args.command.now) (played-told b ws _ start.requires.0 p.ensures.block_after) }

pub returns-in_default : goal.returns-in_default
returns-in_default c =
    let start = c in
    let p = c.play_port-p in
    let b = start.args.block.now in
    let ws = start.args.writes.now in
    record { at_value = p.ensures.at_value ∙ played-at b ws _ start.requires.0 p.ensures.block_after; packets_value = p.ensures.packets_value ∙ played-packets b ws _ start.requires.0 p.ensures.block_after; block_after = played-none b ws _ start.requires.0 p.ensures.block_after (none_zero _ (sym c.in_default.is ∙ p.ensures.packets_value)); command_after = p.ensures.command_after ∙ ap (λ (o : Option (List ℕ)). handed o start.args.command.now) (played-told b ws _ start.requires.0 p.ensures.block_after) }
