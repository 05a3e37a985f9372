-- One way after the other.
use mathlib.Core.Path.{sym, ◌∙◌}
use Rattle.receiver_polling.proofs.Strides.{then}
use Rattle.receiver_polling.proofs.wait.Goals as goal

pub by_one-requires : goal.by_one-requires
by_one-requires c =
    let p = c.requires in
    let f = c.by_eight-f.ensures in
    (λ e. p.0 (sym f.kept ∙ e), (p.1.0, f.within))

pub returns : goal.returns
returns c =
    let a = c.args in
    let f = c.by_eight-f in
    then a.mask a.start.at a.start.rx a.start.lines a.writes.now f.result c.by_one.result f.ensures c.by_one.ensures
