-- Without packets it is refused, and else the rule's answer is the definition's.
use mathlib.Core.Path.{sym, ◌∙◌}
use native.Mathlib.Omega.{arith}
use Rattle.refusal.proofs.Told.{passed_on}
use Rattle.pulses.specs.Answer.{verdict_answer}
use Rattle.pulses.specs.Verdict.{judged}
use Rattle.pulses.proofs.Commands.{none-malformed, some-formed}
use Rattle.pulses.proofs.verdict.Goals as goal

pub returns-in_err-n : goal.returns-in_err-n
unfolding verdict_answer judged
returns-in_err-n c =
    let m = none-malformed c.args.command.now c.in_err-n.field-0.0 (sym c.in_err-n.was ∙ c.packets_of.ensures) in
    let e = passed_on c.from_residual.result c.in_err-n.field-0.0 c.from_residual.ensures.1 in
    record { answer = rw (e, m.0, m.1) }

pub conforms-requires : goal.conforms-requires
conforms-requires c =
    let f = some-formed c.args.command.now c.in_ok-n.n (sym c.in_ok-n.was ∙ c.packets_of.ensures) in
    (omega (arith, f.0.some, f.0.whole), (omega (arith, f.0.few, f.1), f.1))

pub returns : goal.returns
unfolding verdict_answer judged
returns c =
    let f = some-formed c.args.command.now c.in_ok-n.n (sym c.in_ok-n.was ∙ c.packets_of.ensures) in
    record { answer = rw (f.0.taken, sym c.conforms.ensures) }
