-- A lent front is bytes.
use native.Mathlib.Omega.{arith}
use Rattle.block_receiver.proofs.Bytes.{part_bytes}
use Rattle.block_receiver.proofs.stage.Goals as goal

pub returns-clause-packet : goal.returns-clause-packet
returns-clause-packet c = part_bytes c.args.bytes.now 16 16 (λ i. omega (arith, c.type_inv.bytes i)) (omega arith)
