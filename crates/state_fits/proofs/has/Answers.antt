-- Missing, or with its length.
use borrow.Author.Rules.{rules}
use Rattle.state_spans.specs.Coming.{has}
use Rattle.state_fits.proofs.has.Goals as goal

pub returns : goal.returns
unfolding has
returns c = search rules
