-- Behind the first test there are at most 360 items; the second is the definition's.
use mathlib.Core.Path.{sym}
use Rattle.pulses.specs.Verdict.{brings}
use Rattle.pulses.proofs.Held.{few_items}
use Rattle.pulses.proofs.rule.brings.Goals as goal

pub bytes_for-requires : goal.bytes_for-requires
bytes_for-requires c = few_items c.args.code c.args.items c.most_items.result c.one_to.result c.most_items.ensures c.one_to.ensures c.if-one_to.true

pub returns-then-one_to : goal.returns-then-one_to
unfolding brings
returns-then-one_to c = rw (sym c.most_items.ensures, sym c.one_to.ensures, c.if-one_to.true, sym c.bytes_for.ensures)

pub returns-else-one_to : goal.returns-else-one_to
unfolding brings
returns-else-one_to c = rw (sym c.most_items.ensures, sym c.one_to.ensures, c.if-one_to.false)
