-- Each turn passes eight writes more by, and counts the rises of P15 among them.
use mathlib.Core.Path.{refl, sym, ap, ◌∙◌}
use Prim.Native.Nat.{ℕ, ◌<◌}
use native.Mathlib.Omega.{arith}
use lib.Bits.{and_le_r}
use lib.ListN.{get_or}
use Rattle.receiver.specs.Rises.{rises}
use Rattle.receiver.proofs.Flags.{byte_is}
use Rattle.receiver.proofs.Rises.{rises-add, rises-small}
use Rattle.receiver_run.specs.declared.Lines.{Lines}
use Rattle.receiver_polling.proofs.Strides.{stay, then, as-well}
use Rattle.receiver_polling.proofs.Bytes.{rose}
use Rattle.receiver_polling.proofs.Polls.{slots, enough-high, high-count, rises-in, calm-eight, passed-eight}
use Rattle.receiver_polling.proofs.by_eight.Goals as goal

pub loop-i-init : goal.loop-i-init
unfolding rises
loop-i-init c =
    let a = c.args in
    ((omega arith, omega arith), (a.start.few, stay a.mask a.start a.writes.now c.requires.1.1))

pub overflow_sub-writes : goal.overflow_sub-writes
overflow_sub-writes c = c.loop-i.invariant.1.1.within

pub eight-x-requires : goal.eight-x-requires
eight-x-requires c = omega (arith, c.loop-i-test.true)

pub overflow_add-x : goal.overflow_add-x
overflow_add-x c = omega (arith, and_le_r c.eight-x.result 0x3030303030303030)

pub overflow_sub-n : goal.overflow_sub-n
overflow_sub-n c =
    let ws = c.args.writes.now in
    let i = c.loop-i.i in
    let bytes : (j : ℕ) → get_or ws j 0 < 256 = λ (j : ℕ). (c.shared_slice_known-1.given j).fits in
    let x = c.eight-x in
    let e = enough-high i x.result ws bytes x.ensures c.loop-i.p15 in
    omega arith

pub overflow_sub-n-in-loop-i : goal.overflow_sub-n-in-loop-i
overflow_sub-n-in-loop-i c =
    let ws = c.args.writes.now in
    let i = c.loop-i.i in
    let bytes : (j : ℕ) → get_or ws j 0 < 256 = λ (j : ℕ). (c.shared_slice_known-1.given j).fits in
    let x = c.eight-x in
    let e = enough-high i x.result ws bytes x.ensures c.loop-i.p15 in
    rw (c.from.ensures ∙ byte_is c.loop-i.p15) (omega arith)

pub overflow_add-n : goal.overflow_add-n
overflow_add-n c =
    let ws = c.args.writes.now in
    let i = c.loop-i.i in
    let bytes : (j : ℕ) → get_or ws j 0 < 256 = λ (j : ℕ). (c.shared_slice_known-1.given j).fits in
    let x = c.eight-x in
    let at = c.loop-i in
    let e = high-count i x.result ws bytes x.ensures at.p15 in
    let few = rises-in i x.result ws bytes x.ensures at.p15 in
    rw (c.from.ensures ∙ byte_is at.p15, e) (omega (arith, at.invariant.0.0, at.invariant.0.1, c.loop-i-test.true))

pub overflow_add-last : goal.overflow_add-last
overflow_add-last c = omega (arith, c.loop-i-test.true, c.loop-i.invariant.0.1)

pub bounds-writes-i : goal.bounds-writes-i
bounds-writes-i c = omega (arith, c.loop-i-test.true)

pub overflow_add-i : goal.overflow_add-i
overflow_add-i c = omega (arith, c.loop-i-test.true, c.loop-i.invariant.0.1)

pub loop-i-smaller : goal.loop-i-smaller
loop-i-smaller c = omega (arith, c.loop-i-test.true)

pub loop-i-preserved : goal.loop-i-preserved
loop-i-preserved c =
    let ws = c.args.writes.now in
    let i = c.loop-i.i in
    let bytes : (j : ℕ) → get_or ws j 0 < 256 = λ (j : ℕ). (c.shared_slice_known-1.given j).fits in
    let x = c.eight-x in
    let a = c.args in
    let p = c.requires in
    let at = c.loop-i in
    let t = c.loop-i-test.true in
    let n = high-count i x.result ws bytes x.ensures at.p15 in
    let few = rises-in i x.result ws bytes x.ensures at.p15 in
    let r : ℕ = rose at.p15 (slots 8 0 i ws) in
    let g = calm-eight i x.result ws bytes x.ensures c.if-x.false in
    let on = passed-eight a.mask i a.start.rx (record { p15 = at.p15; both = at.both; index = rises at.n a.start.lines.index a.mask }) ws
    (omega (arith, t)) a.start.sound at.invariant.1.0 p.1.0 p.0 g in
    let e = rises-add r at.n a.start.lines.index a.mask in
    rw (c.from.ensures ∙ byte_is at.p15, n) (
      (omega (arith, at.invariant.0.0), at.invariant.0.1),
      rw (c.p15_high-p15.ensures, c.both_high-both.ensures, sym e)
          (rises-small r (rises at.n a.start.lines.index a.mask) a.mask at.invariant.1.0 p.1.0, then a.mask a.start.at a.start.rx a.start.lines ws _ _ at.invariant.1.1 on),
    )

pub index_rises-requires : goal.index_rises-requires
index_rises-requires c = (c.args.start.few, c.requires.1.0)

pub returns : goal.returns
returns c =
    let at = c.loop-i in
    let with : ℕ → Lines = λ (x : ℕ). record { p15 = at.p15; both = at.both; index = x } in
    let e = ap with (sym c.index_rises.ensures) in
    as-well _ _ _ _ _ _ _ refl e refl at.invariant.1.1
