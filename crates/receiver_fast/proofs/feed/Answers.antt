-- Which word is joined, the first or the second.
use mathlib.Core.Path.{refl, ap, ◌∙◌}
use borrow.Author.Rules.{rules}
use Rattle.receiver.proofs.Rises.{rises-small}
use Rattle.receiver_fast.specs.Fast.{released}
use Rattle.receiver_fast.proofs.Passes.{Joins, joins-first, joins-second, join-sound, join}
use Rattle.receiver_fast.proofs.feed.Goals.{in-0, in-64}
use Rattle.receiver_fast.proofs.feed.Goals as goal

pub invariant_of-result : goal.invariant_of-result
invariant_of-result c =
    let start = c.args.start in
    let g = c.gather-g in
    let J : Joins start.rx g.result c.match-rx.next = elim c.match-rx.branch [
      | in-0 w ↦ joins-first start.rx c.match-rx.next g.result start.sound g.ensures.few w.in-0.is (search rules)
      | in-64 w ↦ joins-second start.rx c.match-rx.next g.result start.sound g.ensures.few w.in-64.is (search rules)
    ] in
    record {
      sound = join-sound start c.args.writes.now g.result c.match-rx.next g.ensures J;
      few = rw (c.released.ensures, c.index_rises.ensures, c.from.ensures) (rises-small g.result.ones start.lines.index c.args.mask start.few c.requires.1.0);
    }

pub returns : goal.returns
returns c =
    let start = c.args.start in
    let g = c.gather-g in
    let J : Joins start.rx g.result c.match-rx.next = elim c.match-rx.branch [
      | in-0 w ↦ joins-first start.rx c.match-rx.next g.result start.sound g.ensures.few w.in-0.is (search rules)
      | in-64 w ↦ joins-second start.rx c.match-rx.next g.result start.sound g.ensures.few w.in-64.is (search rules)
    ] in
    join c.args.mask start c.args.writes.now g.result _ c.requires.0.0 c.requires.0.1 g.ensures J
    (c.released.ensures ∙ ap released (c.index_rises.ensures ∙ rw c.from.ensures refl)) refl
