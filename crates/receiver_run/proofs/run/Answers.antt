-- Each turn is a write of the rule, and the run goes on from there, or ends at a command.
use mathlib.Core.Path.{◌≡◌, refl, sym, ap, ◌∙◌}
use native.Mathlib.Omega.{arith}
use Prim.Native.Nat.{ℕ}
use lib.ListN.{length, drop_of_length-le}
use Rattle.receiver.specs.Store.{packets_if, number_if}
use Rattle.receiver.proofs.Sound.{has-place}
use Rattle.receiver_run.specs.Run.{Ended, port_of}
use Rattle.receiver_run.proofs.Turns.{here, turn-ready, turn-on, turn-ended, turn-completed, at_end}
use Rattle.receiver_run.proofs.run.Goals as goal

pub loop-i-init : goal.loop-i-init
loop-i-init c = (c.requires, refl)

pub index_after-index-requires : goal.index_after-index-requires
index_after-index-requires c = c.loop-i.invariant.0.within

pub write-w-requires : goal.write-w-requires
write-w-requires c = c.loop-i.invariant.0.sound

pub file-packets-requires : goal.file-packets-requires
file-packets-requires c = let v = c.loop-i.invariant.0 in
    (has-place _ _ _ _ v.sound c.write-w.ensures, v.long)

pub returns-then-is_some-clause-ended : goal.returns-then-is_some-clause-ended
returns-then-is_some-clause-ended c =
    let at = c.loop-i in
    turn-ended c.write-w.result at.rx (here at.p15 at.both at.index) _ c.args.mask at.i c.args.writes.now c.file-packets.result at.store c.file-packets.new.store _
    at.invariant.0 c.loop-i-test.true at.invariant.1 c.write-w.ensures
    (λ t. record { p15 = c.p15_high-p15.ensures t; both = c.both_high-both.ensures t; index = c.index_after-index.ensures t }) c.file-packets.ensures
    (sym c.is_some.ensures ∙ c.if-is_some.true)

pub returns-then-is_some-clause-completed : goal.returns-then-is_some-clause-completed
returns-then-is_some-clause-completed c =
    let at = c.loop-i in
    turn-completed c.write-w.result at.rx (here at.p15 at.both at.index) _ c.args.mask at.i c.args.writes.now c.file-packets.result at.store c.file-packets.new.store _
    at.invariant.0 c.loop-i-test.true at.invariant.1 c.write-w.ensures
    (λ t. record { p15 = c.p15_high-p15.ensures t; both = c.both_high-both.ensures t; index = c.index_after-index.ensures t }) c.file-packets.ensures
    (sym c.is_some.ensures ∙ c.if-is_some.true)

pub loop-i-preserved : goal.loop-i-preserved
loop-i-preserved c =
    let at = c.loop-i in (
      turn-ready c.write-w.result at.rx (here at.p15 at.both at.index) _ c.args.mask at.i c.args.writes.now c.file-packets.result at.store c.file-packets.new.store _
          at.invariant.0 c.loop-i-test.true at.invariant.1 c.write-w.ensures
          (λ t. record { p15 = c.p15_high-p15.ensures t; both = c.both_high-both.ensures t; index = c.index_after-index.ensures t }) c.file-packets.ensures,
      turn-on c.write-w.result at.rx (here at.p15 at.both at.index) _ c.args.mask at.i c.args.writes.now c.file-packets.result at.store c.file-packets.new.store _
          at.invariant.0 c.loop-i-test.true at.invariant.1 c.write-w.ensures
          (λ t. record { p15 = c.p15_high-p15.ensures t; both = c.both_high-both.ensures t; index = c.index_after-index.ensures t }) c.file-packets.ensures
          (sym c.is_some.ensures ∙ c.if-is_some.false),
    )

pub returns-clause-ended : goal.returns-clause-ended
unfolding number_if
returns-clause-ended c =
    let at = c.loop-i in
    let a = c.args in
    let e : length a.writes.now ≡ at.i = omega arith in
    ap (λ (n : ℕ). record { port = port_of at.rx (here at.p15 at.both at.index) at.store; index = at.index; at = n; packets = 0 }) e
    ∙ at_end a.mask at.i at.index _ _ (rw (drop_of_length-le a.writes.now {i = at.i} c.loop-i-test.false) at at.invariant.1)

pub returns-clause-completed : goal.returns-clause-completed
unfolding packets_if
returns-clause-completed c =
    let at = c.loop-i in
    let a = c.args in
    ap (λ (d : Ended). packets_if d.packets)
    (at_end a.mask at.i at.index _ _ (rw (drop_of_length-le a.writes.now {i = at.i} c.loop-i-test.false) at at.invariant.1))
