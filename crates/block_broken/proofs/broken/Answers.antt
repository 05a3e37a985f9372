-- One of V1 to V5, or V6 behind them.
use mathlib.Core.Path.{ap, sym, ◌∙◌}
use Rattle.refusal.specs.Codes.{code_or_0}
use Rattle.refusal.proofs.Told.{code-some, passed_on}
use Rattle.broken.specs.Broken.{number_of}
use Rattle.broken.proofs.Numbers.{told-front, told-6, told-all}
use Rattle.block_broken.proofs.broken.Goals as goal

pub returns-in_err-broken_front : goal.returns-in_err-broken_front
returns-in_err-broken_front c =
    let e = c.in_err-broken_front in
    let r = e.field-0.0 in
    ap code_or_0 (passed_on c.from_residual.result r c.from_residual.ensures.1)
    ∙ e.ensures
    ∙ told-front c.args.block.now (λ z. code-some r (e.ensures ∙ z))

pub returns-then-not-v6 : goal.returns-then-not-v6
returns-then-not-v6 c =
    let b = c.args.block.now in
    let z = sym c.in_ok-broken_front.ensures in
    let f = sym c.v6.ensures ∙ c.if-not-v6.true in
    c.broken_at.ensures ∙ ap (number_of 26) c.at_v6.ensures ∙ told-6 b z f

pub returns : goal.returns
returns c =
    let b = c.args.block.now in
    let h = sym c.v6.ensures ∙ c.if-not-v6.false in
    told-all b (sym c.in_ok-broken_front.ensures) h
