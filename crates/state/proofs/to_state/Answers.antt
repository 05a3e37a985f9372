-- The refusals in their order, and else the state that the block says.
use mathlib.Core.Path.{refl, sym, ◌∙◌}
use Rattle.refusal.specs.Codes.{code_of}
use Rattle.refusal.proofs.Told.{code-some}
use Rattle.view.proofs.Refusals.{refused_by, refuses, accepts}
use Rattle.state_spans.specs.Going.{to_answer}
use Rattle.state_spans.specs.Told.{lent_told}
use Rattle.state_spans.proofs.Stored.{stored_in}
use Rattle.state.proofs.Answers.{keeps-all, no_room, goes-out}
use Rattle.state.proofs.to_state.Goals as goal

pub returns-in_err-check-clause-result_value : goal.returns-in_err-check-clause-result_value
unfolding to_answer
returns-in_err-check-clause-result_value c = refused_by _ _ _ c.from_residual.result c.in_err-check.field-0.0 c.in_err-check.ensures c.from_residual.ensures.1

pub returns-in_err-check-clause-room_after : goal.returns-in_err-check-clause-room_after
unfolding to_answer
returns-in_err-check-clause-room_after c =
    let r = c.in_err-check.field-0.0 in
    (keeps-all c.args.block.now (lent_told c.args.room.now) (code_of r) (refuses _ _ (code_of r) c.in_err-check.ensures (code-some r))).1

pub returns-then-not-roomy-clause-result_value : goal.returns-then-not-roomy-clause-result_value
returns-then-not-roomy-clause-result_value c =
    (no_room c.args.block.now (lent_told c.args.room.now) (accepts _ 0 c.in_ok-check.ensures refl) (sym c.roomy.ensures ∙ c.if-not-roomy.true)).0

pub returns-then-not-roomy-clause-room_after : goal.returns-then-not-roomy-clause-room_after
returns-then-not-roomy-clause-room_after c =
    (no_room c.args.block.now (lent_told c.args.room.now) (accepts _ 0 c.in_ok-check.ensures refl) (sym c.roomy.ensures ∙ c.if-not-roomy.true)).1

pub lay-requires : goal.lay-requires
lay-requires c = let v = accepts _ 0 c.in_ok-check.ensures refl in (v.long, ((stored_in _ v).few, sym c.roomy.ensures ∙ c.if-not-roomy.false))

pub present_in-requires : goal.present_in-requires
present_in-requires c = (accepts _ 0 c.in_ok-check.ensures refl).long

pub returns-clause-result_value : goal.returns-clause-result_value
returns-clause-result_value c =
    (goes-out c.args.block.now (lent_told c.args.room.now) (accepts _ 0 c.in_ok-check.ensures refl) (sym c.roomy.ensures ∙ c.if-not-roomy.false) _ _ c.present_in.ensures c.lay.ensures.spans_after).0

pub returns-clause-room_after : goal.returns-clause-room_after
returns-clause-room_after c =
    (goes-out c.args.block.now (lent_told c.args.room.now) (accepts _ 0 c.in_ok-check.ensures refl) (sym c.roomy.ensures ∙ c.if-not-roomy.false) _ _ c.present_in.ensures c.lay.ensures.spans_after).1
