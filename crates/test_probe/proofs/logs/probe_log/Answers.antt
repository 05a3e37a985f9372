-- Each run ends within its writes, after at least one, and keeps what a run requires.
use borrow.Author.Rules.{rules}
use mathlib.Core.Path.{◌≡◌, sym, ap, ◌∙◌, subst⁻¹}
use Prim.Native.Nat.{ℕ, ◌+◌, ◌-◌, ◌≤◌, ◌<◌}
use mathlib.Core.List.{List}
use native.Mathlib.Omega.{arith}
use lib.Bits.{mask_lt}
use lib.Dec.{lit<}
use lib.ListN.{length, take, drop, length-take, length-drop}
use Rattle.receiver.specs.Port.{Port}
use Rattle.receiver.specs.Receive.{Sound}
use Rattle.receiver.proofs.Sound.{sound-idle}
use Rattle.receiver_run.specs.Run.{Ended, runs, port_of, Ready}
use Rattle.receiver_run.proofs.Hears.{ready-runs, at_most, at_least}
use Rattle.test_probe.proofs.logs.probe_log.Goals as goal

-- ---- after a run: how far it came, and what holds of the unit that it leaves
steps : (writes : List ℕ) (at x : ℕ) (met : Port) (r : Ended) → at < length writes → r ≡ runs 3 0 x met (take (length writes - at) (drop at writes)) → (0 < r.at) × (r.at ≤ length writes - at)
steps writes at x met r h ended =
    let left : List ℕ = take (length writes - at) (drop at writes) in
    let l : length left ≡ length writes - at = simp (length-take, length-drop) (omega arith) in
    let e : r.at ≡ (runs 3 0 x met left).at = ap (λ (q : Ended). q.at) ended in
    (rw e (at_least 3 x met left (omega arith)), omega (arith, at_most 3 x met left))

pub loop-at-init : goal.loop-at-init
loop-at-init c = (
  (omega arith, (omega arith, omega arith)),
  record { sound = subst⁻¹ Sound c.new-rx.ensures sound-idle; within = lit< tt; narrow = lit< tt; long = search rules },
)

pub either-r-requires : goal.either-r-requires
either-r-requires c = c.loop-at.invariant.1

pub overflow_add-at : goal.overflow_add-at
overflow_add-at c =
    let s : (0 < c.either-r.result.at) × (c.either-r.result.at ≤ length c.args.writes.now - c.loop-at.at) =
    steps c.args.writes.now c.loop-at.at c.loop-at.lines.index (port_of c.loop-at.rx c.loop-at.lines c.loop-at.store) _ c.loop-at-test.true c.either-r.ensures in
    omega (arith, s.1, c.loop-at.invariant.0.0, c.loop-at.invariant.0.1.1)

pub overflow_add-total : goal.overflow_add-total
overflow_add-total c = omega (arith, c.loop-at.invariant.0.1.0)

pub loop-at-smaller-then-is_some : goal.loop-at-smaller-then-is_some
loop-at-smaller-then-is_some c =
    let s : (0 < c.either-r.result.at) × (c.either-r.result.at ≤ length c.args.writes.now - c.loop-at.at) =
    steps c.args.writes.now c.loop-at.at c.loop-at.lines.index (port_of c.loop-at.rx c.loop-at.lines c.loop-at.store) _ c.loop-at-test.true c.either-r.ensures in
    omega (arith, s.0, s.1, c.loop-at-test.true)

pub loop-at-preserved-then-is_some : goal.loop-at-preserved-then-is_some
loop-at-preserved-then-is_some c =
    let s : (0 < c.either-r.result.at) × (c.either-r.result.at ≤ length c.args.writes.now - c.loop-at.at) =
    steps c.args.writes.now c.loop-at.at c.loop-at.lines.index (port_of c.loop-at.rx c.loop-at.lines c.loop-at.store) _ c.loop-at-test.true c.either-r.ensures in
    let w = c.args.writes.now in
    let again = subst⁻¹ (λ (q : Ended). Ready q.port q.index 3) c.either-r.ensures
    (ready-runs 3 0 c.loop-at.lines.index (port_of c.loop-at.rx c.loop-at.lines c.loop-at.store) (take (length w - c.loop-at.at) (drop c.loop-at.at w)) c.loop-at.invariant.1) in
    let at = c.loop-at in
    let v = at.invariant.0 in (
      (omega (arith, s.1, v.0), (mask_lt (at.total + 1) 32, v.1.1)),
      again,
    )

pub loop-at-smaller : goal.loop-at-smaller
loop-at-smaller c =
    let s : (0 < c.either-r.result.at) × (c.either-r.result.at ≤ length c.args.writes.now - c.loop-at.at) =
    steps c.args.writes.now c.loop-at.at c.loop-at.lines.index (port_of c.loop-at.rx c.loop-at.lines c.loop-at.store) _ c.loop-at-test.true c.either-r.ensures in
    omega (arith, s.0, s.1, c.loop-at-test.true)

pub loop-at-preserved : goal.loop-at-preserved
loop-at-preserved c =
    let s : (0 < c.either-r.result.at) × (c.either-r.result.at ≤ length c.args.writes.now - c.loop-at.at) =
    steps c.args.writes.now c.loop-at.at c.loop-at.lines.index (port_of c.loop-at.rx c.loop-at.lines c.loop-at.store) _ c.loop-at-test.true c.either-r.ensures in
    let w = c.args.writes.now in
    let again = subst⁻¹ (λ (q : Ended). Ready q.port q.index 3) c.either-r.ensures
    (ready-runs 3 0 c.loop-at.lines.index (port_of c.loop-at.rx c.loop-at.lines c.loop-at.store) (take (length w - c.loop-at.at) (drop c.loop-at.at w)) c.loop-at.invariant.1) in
    let v = c.loop-at.invariant.0 in (
      (omega (arith, s.1, v.0), v.1),
      again,
    )

pub shape_of-store : goal.shape_of-store
shape_of-store c = c.loop-at.invariant.1.long ∙ sym (search rules)
