-- A flag test is the bit.
use Rattle.bits.proofs.Masks.{flag}
use Rattle.receiver.specs.Lines.{p15_high}
use Rattle.receiver.proofs.lines.p15_high.Goals as goal

pub returns : goal.returns
unfolding p15_high
returns c = flag c.args.value 5
