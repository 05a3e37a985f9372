-- Without packets it is refused, as with too little room, and else the packets are written.
use mathlib.Core.Path.{sym, ap, ◌∙◌}
use native.Mathlib.Omega.{arith}
use lib.ListN.{length}
use Rattle.refusal.proofs.Told.{passed_on}
use Rattle.pulses.proofs.Commands.{some-formed}
use Rattle.pulses.proofs.Encodes.{answers-malformed, answers-short, answers-writes}
use Rattle.pulses.proofs.Front.{length_so_far}
use Rattle.pulses.proofs.encode.Goals as goal

pub returns-in_err-n : goal.returns-in_err-n
returns-in_err-n c =
    let e = passed_on c.from_residual.result c.in_err-n.field-0.0 c.from_residual.ensures.1 in
    rw e (answers-malformed c.args.command.now c.args.out.now c.in_err-n.field-0.0 (sym c.in_err-n.was ∙ c.packets_of.ensures))

pub overflow_mul-n : goal.overflow_mul-n
overflow_mul-n c =
    let f = some-formed c.args.command.now c.in_ok-n.n (sym c.in_ok-n.was ∙ c.packets_of.ensures) in
    omega (arith, f.0.few, f.1)

pub returns-then-out-n : goal.returns-then-out-n
returns-then-out-n c = answers-short c.args.command.now c.args.out.now c.in_ok-n.n (sym c.in_ok-n.was ∙ c.packets_of.ensures) c.if-out-n.true

pub encode_packets-requires : goal.encode_packets-requires
encode_packets-requires c =
    let f = some-formed c.args.command.now c.in_ok-n.n (sym c.in_ok-n.was ∙ c.packets_of.ensures) in
    (omega (arith, f.0.few, f.1), (omega (arith, f.0.whole, f.1), c.if-out-n.false))

pub overflow_mul-result : goal.overflow_mul-result
overflow_mul-result c =
    let f = some-formed c.args.command.now c.in_ok-n.n (sym c.in_ok-n.was ∙ c.packets_of.ensures) in
    omega (arith, f.0.few, f.1)

pub shape_of-out : goal.shape_of-out
shape_of-out c =
    let f = some-formed c.args.command.now c.in_ok-n.n (sym c.in_ok-n.was ∙ c.packets_of.ensures) in
    ap length c.encode_packets.ensures ∙ length_so_far c.args.command.now c.args.out.now c.in_ok-n.n (omega (arith, f.0.whole, f.1)) c.if-out-n.false

pub returns : goal.returns
returns c =
    answers-writes c.args.command.now c.args.out.now c.in_ok-n.n (sym c.in_ok-n.was ∙ c.packets_of.ensures) _ c.if-out-n.false c.encode_packets.ensures
