-- What is left of the text from here on is tallied to the same number.
use Rattle.std.proofs.Common.{◌≡◌, drop}
use Rattle.log_writer.specs.Tally.{tallied}
use Rattle.log_writer.proofs.weigh.Given as goal

abbrev pub invariant-loop-b : goal.invariant-loop-b
invariant-loop-b l = tallied l.tally (drop l.b-index l.text) ≡ tallied l.initial.tally l.text
