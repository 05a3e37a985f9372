-- Each turn takes four pulses more.
use Prim.Native.Nat.{ℕ, ◌/◌}
use native.Mathlib.Omega.{arith}
use lib.Bits.{and_le_r}
use lib.Dec.{lit<}
use lib.ListN.{drop}
use Rattle.receiver_gather.proofs.Feeds.{feeds_none}
use Rattle.receiver_gather.proofs.Lanes.{gathers-four, parts}
use Rattle.receiver_gather.proofs.Gathers.{gave}
use Rattle.receiver_gather.proofs.gather.Goals as goal

pub returns-then-writes-from-lt128 : goal.returns-then-writes-from-lt128
returns-then-writes-from-lt128 c = record {
  place = omega arith;
  within = c.requires;
  few = omega arith;
  small = lit< tt;
  feeds = feeds_none (drop c.args.from c.args.writes.now);
}

pub loop-count-init : goal.loop-count-init
loop-count-init c = record {
  place = omega arith;
  room = omega arith;
  few = omega arith;
  fours = omega arith;
  small = lit< tt;
  ones_few = omega arith;
  feeds = feeds_none (drop c.args.from c.args.writes.now);
}

pub eight-x-requires : goal.eight-x-requires
eight-x-requires c = omega (arith, c.loop-count.invariant.place, c.loop-count.invariant.room, c.loop-count.invariant.fours)

pub overflow_add-g : goal.overflow_add-g
overflow_add-g c = omega (arith, and_le_r (c.eight-x.result / 16) 0x0001000100010001, and_le_r (c.eight-x.result / 32) 0x0001000100010001)

pub overflow_shl-word : goal.overflow_shl-word
overflow_shl-word c = c.loop-count-test.true

pub overflow_cast-ones : goal.overflow_cast-ones
overflow_cast-ones c =
    let at = c.loop-count in
    let x = c.eight-x in
    let p = parts c.args.writes.now at.i x.result (λ (j : ℕ). (c.shared_slice_known-1.given j).fits) x.ensures in
    omega (arith, p.1)

pub overflow_add-ones : goal.overflow_add-ones
overflow_add-ones c =
    let at = c.loop-count in
    let x = c.eight-x in
    let p = parts c.args.writes.now at.i x.result (λ (j : ℕ). (c.shared_slice_known-1.given j).fits) x.ensures in
    omega (arith, p.1, at.invariant.ones_few, at.invariant.few)

pub loop-count-preserved : goal.loop-count-preserved
loop-count-preserved c =
    let at = c.loop-count in
    let ws = c.args.writes.now in
    gathers-four ws c.args.from at.word at.count at.ones at.i c.eight-x.result at.invariant c.loop-count-test.true
    (λ (j : ℕ). (c.shared_slice_known-1.given j).fits) c.eight-x.ensures c.if-x-ne3458817291183992832.false c.if-g-h-ne281479271743489.false

pub returns-after-loop-count : goal.returns-after-loop-count
returns-after-loop-count c = gave _ _ _ c.loop-count.invariant

pub returns-then-x-ne3458817291183992832 : goal.returns-then-x-ne3458817291183992832
returns-then-x-ne3458817291183992832 c = gave _ _ _ c.loop-count.invariant

pub returns-then-g-h-ne281479271743489 : goal.returns-then-g-h-ne281479271743489
returns-then-g-h-ne281479271743489 c = gave _ _ _ c.loop-count.invariant
