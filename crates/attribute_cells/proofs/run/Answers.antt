-- Each turn puts the next pair at its place and goes on to the place after it.
use mathlib.Core.Path.{◌≡◌, ◌∙◌}
use native.Mathlib.Omega.{arith}
use borrow.Author.Tests.{lt-ltb, le-ltb}
use Rattle.attribute_cells.specs.Chr.{put_at, pair_of_data}
use Rattle.attribute_map.proofs.Steps.{after_none, after_more}
use Rattle.attribute_cells.proofs.Places.{placed_none, placed-more, near_next}
use Rattle.attribute_cells.proofs.run.Goals.{then-s-lt20+then-s-lt18, else-s-lt20, else-s-lt20-via-then-s-lt20+else-s-lt18, else-s-lt20-via-else-s-lt20}
use Rattle.attribute_cells.proofs.run.Goals as goal

pub loop-k-init : goal.loop-k-init
loop-k-init c = (record { across = c.requires.2; down = c.requires.3 }, placed_none, after_none)

pub loop-k-preserved : goal.loop-k-preserved
unfolding pair_of_data put_at
loop-k-preserved c =
    let l = c.loop-k in
    let put : c.if-s-lt20.m ≡ put_at l.s c.pair-v.result l.m =
    elim c.if-s-lt20.branch [
      | then-s-lt20+then-s-lt18 w ↦ rw (w.m-is, lt-ltb _ _ w.if-s-lt20.true, lt-ltb _ _ w.if-s-lt18.true)
      | else-s-lt20 w ↦
          elim w.else-s-lt20.branch [
            | else-s-lt20-via-then-s-lt20+else-s-lt18 u ↦ rw (w.m-is, lt-ltb _ _ u.if-s-lt20.true, le-ltb _ _ u.if-s-lt18.false)
            | else-s-lt20-via-else-s-lt20 u ↦ rw (w.m-is, le-ltb _ _ u.if-s-lt20.false)
          ]
    ] in (
      near_next _ l.invariant.0 c.next-s.ensures _ (omega arith),
      placed-more l.invariant.1 c.next-s.ensures,
      after_more l.invariant.2 (put ∙ rw (l.invariant.1.is, c.pair-v.ensures)),
    )
