-- Missing, or with its length.
use borrow.Author.Rules.{rules}
use Rattle.state_spans.specs.Coming.{may_have}
use Rattle.state_fits.proofs.may_have.Goals as goal

pub returns : goal.returns
unfolding may_have
returns c = search rules
