-- The mask keeps just the two bits.
use Rattle.receiver.proofs.Pulses.{both_test}
use Rattle.receiver.proofs.lines.both_high.Goals as goal

pub returns : goal.returns
returns c = both_test c.args.value
