-- That row of V3 (RULES 1.8) test by test; the packet's number is 0 if its bytes are.
use native.Mathlib.Omega.{arith}
use Rattle.std.proofs.lemmas.Bool.Decides.{nat_tests}
use Rattle.bits.specs.Over.{part}
use Rattle.parts.specs.Parts.{packet_at, packet_bytes}
use Rattle.layout.specs.Block.{load}
use Rattle.receiver.specs.Valid.{v3_at}
use Rattle.block_receiver.proofs.Bytes.{zero-value}
use Rattle.block_receiver.proofs.idle.Goals as goal

pub returns-then-all_zero : goal.returns-then-all_zero
unfolding v3_at load
returns-then-all_zero c = grind (arith, nat_tests, zero-value (part packet_at packet_bytes c.args.front.bytes.now))

pub returns-else-all_zero : goal.returns-else-all_zero
unfolding v3_at load
returns-else-all_zero c = grind (arith, nat_tests, zero-value (part packet_at packet_bytes c.args.front.bytes.now))
