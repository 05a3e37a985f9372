-- What is skipped doesn't change the run, and else a turn is a write of the rule, as in `run`.
use mathlib.Core.Path.{refl, sym, ap, ◌∙◌}
use native.Mathlib.Omega.{arith}
use lib.ListN.{drop_of_length-le}
use Rattle.receiver.specs.Store.{packets_if, number_if}
use Rattle.receiver.proofs.Sound.{has-place}
use Rattle.receiver_run.specs.Run.{Ended}
use Rattle.receiver_run.proofs.Turns.{turn-ready, turn-on, turn-ended, turn-completed, at_end}
use Rattle.receiver_polling.specs.Passing.{lines_after}
use Rattle.receiver_fast.proofs.run_fast.Goals as goal

pub loop-at-init : goal.loop-at-init
loop-at-init c = ((omega arith, omega arith), (c.requires, refl))

pub skip-f-requires : goal.skip-f-requires
skip-f-requires c =
    let v = c.loop-at.invariant in
    (v.1.0.narrow, v.0.0)

pub loop-at-preserved-then-f-at : goal.loop-at-preserved-then-f-at
loop-at-preserved-then-f-at c =
    let v = c.loop-at.invariant in
    let f = c.skip-f.ensures in (
      (f.within, v.0.1),
      (record { sound = f.sound; within = f.few; narrow = v.1.0.narrow; long = v.1.0.long }, sym (f.same _) ∙ v.1.1),
    )

pub write-w-requires : goal.write-w-requires
write-w-requires c = c.loop-at.invariant.1.0.sound

pub file-packets-requires : goal.file-packets-requires
file-packets-requires c =
    let v = c.loop-at.invariant.1.0 in
    (has-place _ _ _ _ v.sound c.write-w.ensures, v.long)

pub after-lines-requires : goal.after-lines-requires
after-lines-requires c = c.loop-at.invariant.1.0.within

-- a turn that is a write
pub returns-then-is_some-clause-ended : goal.returns-then-is_some-clause-ended
unfolding lines_after
returns-then-is_some-clause-ended c =
    let at = c.loop-at in
    turn-ended c.write-w.result at.rx at.lines c.after-lines.result c.args.mask at.at c.args.writes.now c.file-packets.result at.store c.file-packets.new.store _
    at.invariant.1.0 c.loop-at-test.true at.invariant.1.1 c.write-w.ensures c.after-lines.ensures c.file-packets.ensures
    (sym c.is_some.ensures ∙ c.if-is_some.true)

pub returns-then-is_some-clause-completed : goal.returns-then-is_some-clause-completed
unfolding lines_after
returns-then-is_some-clause-completed c =
    let at = c.loop-at in
    turn-completed c.write-w.result at.rx at.lines c.after-lines.result c.args.mask at.at c.args.writes.now c.file-packets.result at.store c.file-packets.new.store _
    at.invariant.1.0 c.loop-at-test.true at.invariant.1.1 c.write-w.ensures c.after-lines.ensures c.file-packets.ensures
    (sym c.is_some.ensures ∙ c.if-is_some.true)

pub loop-at-preserved : goal.loop-at-preserved
unfolding lines_after
loop-at-preserved c =
    let at = c.loop-at in
    let w = c.args.writes.now in (
      (omega (arith, c.loop-at-test.true), at.invariant.0.1),
      (
        turn-ready c.write-w.result at.rx at.lines c.after-lines.result c.args.mask at.at w c.file-packets.result at.store c.file-packets.new.store _
            at.invariant.1.0 c.loop-at-test.true at.invariant.1.1 c.write-w.ensures c.after-lines.ensures c.file-packets.ensures,
        turn-on c.write-w.result at.rx at.lines c.after-lines.result c.args.mask at.at w c.file-packets.result at.store c.file-packets.new.store _
            at.invariant.1.0 c.loop-at-test.true at.invariant.1.1 c.write-w.ensures c.after-lines.ensures c.file-packets.ensures
            (sym c.is_some.ensures ∙ c.if-is_some.false),
      ),
    )

pub returns-clause-ended : goal.returns-clause-ended
unfolding number_if
returns-clause-ended c =
    let at = c.loop-at in
    at_end c.args.mask at.at at.lines.index _ _ (rw (drop_of_length-le c.args.writes.now {i = at.at} c.loop-at-test.false) at at.invariant.1.1)

pub returns-clause-completed : goal.returns-clause-completed
unfolding packets_if
returns-clause-completed c =
    let at = c.loop-at in
    ap (λ (d : Ended). packets_if d.packets)
    (at_end c.args.mask at.at at.lines.index _ _ (rw (drop_of_length-le c.args.writes.now {i = at.at} c.loop-at-test.false) at at.invariant.1.1))
