-- Four stores, and the packet as its two words.
use borrow.Author.Rules.{rules}
use mathlib.Core.Path.{sym, ap, ◌∙◌}
use native.Mathlib.Omega.{arith}
use lib.ListN.{length, length-set}
use Rattle.receiver.specs.Receive.{rx_of}
use Rattle.block_port.proofs.Steps.{length-receiver, receiver-put}
use Rattle.block_port.proofs.save_receiver.Goals as goal

pub put_half-requires : goal.put_half-requires
put_half-requires c = simp length-set (omega arith)

pub put_half-requires-2 : goal.put_half-requires-2
put_half-requires-2 c =
    let k = simp length-set at c.put_half.auto.bytes in
    omega (arith, k, c.requires)

pub returns : goal.returns
returns c = receiver-put c.args.block.now _ _ c.args.rx c.requires (search rules) c.stage_number.ensures c.put_half.ensures _ c.put_half-2.ensures

pub shape_of-block : goal.shape_of-block
shape_of-block c = ap length (returns c) ∙ length-receiver (rx_of c.args.rx) c.args.block.now c.requires ∙ sym c.requires
