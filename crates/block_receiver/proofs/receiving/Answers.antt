-- That row of V3 (RULES 1.8) test by test; the packet's two words are the number of its bytes.
use native.Mathlib.Omega.{arith}
use Rattle.std.proofs.lemmas.Bool.Decides.{nat_tests}
use Rattle.layout.specs.Block.{load}
use Rattle.receiver.specs.Valid.{v3_at}
use Rattle.block_packet.proofs.Halves.{value-words}
use Rattle.block_receiver.proofs.receiving.Goals as goal

pub returns-then-bits-gt128 : goal.returns-then-bits-gt128
unfolding v3_at load
returns-then-bits-gt128 c = grind (arith, nat_tests, value-words c.args.front.bytes.now 16 (omega arith))

pub returns-then-front-ne0 : goal.returns-then-front-ne0
unfolding v3_at load
returns-then-front-ne0 c = grind (arith, nat_tests, value-words c.args.front.bytes.now 16 (omega arith))

pub returns-then-front-eq0 : goal.returns-then-front-eq0
unfolding v3_at load
returns-then-front-eq0 c = grind (arith, nat_tests, value-words c.args.front.bytes.now 16 (omega arith))

pub returns-else-front-eq0 : goal.returns-else-front-eq0
unfolding v3_at load
returns-else-front-eq0 c = grind (arith, nat_tests, value-words c.args.front.bytes.now 16 (omega arith))
