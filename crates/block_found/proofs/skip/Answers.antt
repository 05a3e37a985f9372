-- Each step stays before what is looked for, and the one that does not is the last.
use Prim.Native.Nat.{◌+◌, ◌-◌}
use mathlib.Core.Path.{sym, ◌∙◌}
use native.Mathlib.Omega.{arith}
use Rattle.block_found.proofs.Sets.{set-short, not_in, is_in}
use Rattle.block_found.proofs.skip.Goals as goal

pub loop-at-init : goal.loop-at-init
loop-at-init c = let a = c.args in let h = set-short a.s.now in (c.requires.0, (omega arith, c.requires.1))

pub returns-then-not-all_zero : goal.returns-then-not-all_zero
returns-then-not-all_zero c =
    let a = c.loop-at in
    let b = c.args in
    let z = is_in a.at (a.at + b.size - a.at) b.s.now a.invariant.0 (sym c.all_zero.ensures ∙ c.if-not-all_zero.true) in
    (a.invariant.0, omega arith)

pub loop-at-preserved : goal.loop-at-preserved
loop-at-preserved c =
    let a = c.loop-at in
    let b = c.args in
    let z = not_in a.at (a.at + b.size - a.at) b.s.now a.invariant.0 (omega arith) (sym c.all_zero.ensures ∙ c.if-not-all_zero.false) in
    (omega arith, (omega arith, a.invariant.1.1))

pub returns : goal.returns
returns c =
    let a = c.loop-at in
    let h = set-short c.args.s.now in
    (a.invariant.0, omega arith)
