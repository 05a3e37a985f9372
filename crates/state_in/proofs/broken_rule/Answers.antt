-- One of V1 to V5, or the mask behind them.
use mathlib.Core.List.{[], ◌∷◌}
use mathlib.Core.Path.{ap, sym, ◌∙◌}
use Rattle.refusal.specs.Codes.{code_or_0}
use Rattle.refusal.proofs.Told.{code-some, passed_on}
use Rattle.broken.specs.Broken.{front_rules}
use Rattle.broken.proofs.Numbers.{number-kept, number_past}
use Rattle.state_in.specs.Front.{asks_mask, front_number}
use Rattle.state_in.proofs.Fronts.{mask-told, mask-clear}
use Rattle.state_in.proofs.broken_rule.Goals as goal

pub returns-in_err-broken_front : goal.returns-in_err-broken_front
unfolding front_number
returns-in_err-broken_front c =
    let f = c.args.front.now in
    let e = c.in_err-broken_front in
    let r = e.field-0.0 in
    ap code_or_0 (passed_on c.from_residual.result r c.from_residual.ensures.1)
    ∙ e.ensures
    ∙ number-kept 1 (front_rules f) (asks_mask f ∷ []) (λ z. code-some r (e.ensures ∙ z))

pub returns-then-not-mask_allows : goal.returns-then-not-mask_allows
unfolding front_number
returns-then-not-mask_allows c = let f = c.args.front.now in
    let z = sym c.in_ok-broken_front.ensures in
    mask-told _ (sym c.mask_allows.ensures ∙ c.if-not-mask_allows.true) ∙ number_past 1 (front_rules f) (asks_mask f ∷ []) z

pub returns : goal.returns
unfolding front_number
returns c = let f = c.args.front.now in
    let z = sym c.in_ok-broken_front.ensures in
    mask-clear _ (sym c.mask_allows.ensures ∙ c.if-not-mask_allows.false) ∙ number_past 1 (front_rules f) (asks_mask f ∷ []) z
