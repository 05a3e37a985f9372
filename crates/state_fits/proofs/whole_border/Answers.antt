-- Where a span is missing the border is not whole.
use borrow.Author.Rules.{rules}
use Rattle.state_spans.specs.State.{is_there}
use Rattle.state_spans.specs.Coming.{whole_border}
use Rattle.state_fits.proofs.whole_border.Goals as goal

pub returns-in_err-spans : goal.returns-in_err-spans
unfolding whole_border is_there
returns-in_err-spans c = search rules

pub returns-in_err-spans-2 : goal.returns-in_err-spans-2
unfolding whole_border is_there
returns-in_err-spans-2 c = search rules

pub returns-in_err-spans-3 : goal.returns-in_err-spans-3
unfolding whole_border is_there
returns-in_err-spans-3 c = search rules
