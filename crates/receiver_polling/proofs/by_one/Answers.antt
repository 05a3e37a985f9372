-- Each write up to the next start pulse is passed by.
use mathlib.Core.Path.{◌≡◌, refl}
use lib.ListN.{length, get_or}
use native.Mathlib.Omega.{arith}
use Rattle.receiver_polling.proofs.Strides.{stay, then, as-well}
use Rattle.receiver_polling.proofs.Waits.{after-small, passed-one}
use Rattle.receiver_polling.proofs.by_one.Goals as goal

pub loop-i-init : goal.loop-i-init
loop-i-init c =
    let a = c.args in
    (a.start.few, stay a.mask a.start a.writes.now c.requires.1.1)

pub after-here-requires : goal.after-here-requires
after-here-requires c = c.loop-i.invariant.0

pub loop-i-preserved : goal.loop-i-preserved
loop-i-preserved c =
    let a = c.args in
    let p = c.requires in
    let at = c.loop-i in
    let one = passed-one a.mask at.i a.start.rx at.here a.writes.now (omega arith) a.start.sound at.invariant.0 p.1.0 p.0
    c.if-v-eq0.false in
    rw c.after-here.ensures (after-small at.here a.mask (get_or a.writes.now at.i 0) at.invariant.0 p.1.0, then a.mask a.start.at a.start.rx a.start.lines a.writes.now _ _ at.invariant.1 one)

pub returns : goal.returns
returns c =
    let e : c.loop-i.i ≡ length c.args.writes.now = omega (arith, c.loop-i.invariant.1.within) in
    as-well _ _ _ _ _ _ _ refl refl e c.loop-i.invariant.1

pub returns-then-v-eq0 : goal.returns-then-v-eq0
returns-then-v-eq0 c = as-well _ _ _ _ _ _ _ refl refl refl c.loop-i.invariant.1
