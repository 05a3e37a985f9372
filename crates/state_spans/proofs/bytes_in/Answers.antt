-- Each arm is the definition's.
use borrow.Author.Rules.{rules}
use Rattle.state_spans.specs.State.{bytes_in}
use Rattle.state_spans.proofs.bytes_in.Goals as goal

pub returns-in-Some : goal.returns-in-Some
unfolding bytes_in
returns-in-Some c = search rules

pub returns-in-None : goal.returns-in-None
unfolding bytes_in
returns-in-None c = search rules
