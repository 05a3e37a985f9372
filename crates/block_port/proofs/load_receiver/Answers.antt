-- Field by field; two words are the number of the packet's sixteen bytes.
use native.Mathlib.Omega.{arith}
use Rattle.layout.specs.Block.{load}
use Rattle.block_packet.proofs.Halves.{value-words}
use Rattle.block_port.proofs.load_receiver.Goals as goal

pub returns : goal.returns
unfolding load
returns c = rw (c.stage_of.ensures, c.half.ensures, c.half-2.ensures, value-words c.args.block.now 16 (omega arith))
