-- Each turn hands over some of what is left.
use Rattle.std.proofs.Common.{refl, subst, Bool, arith}
use Rattle.log_writer.specs.Tally.{tallied, Sent}
use Rattle.log_writer.proofs.Tallies.{rest-most, tallied-more, sent_all, sent-some, sent-none}
use Rattle.std.proofs.lemmas.Grind.{common_steps}
use Rattle.log_writer.proofs.hand_over.Goals as goal

pub loop-done-init : goal.loop-done-init
loop-done-init c = ((unfold tallied in refl), omega arith)

pub returns-in_err-n : goal.returns-in_err-n
returns-in_err-n c =
    let a = c.loop-done in
    let sent = sent-none c.args.printer.now.tally a.printer.tally c.args.text.now a.done a.invariant.0 c.put.new.printer.tally c.loop-done-test.true c.in_err-n.ensures.err in
    subst (λ (b : Bool). Sent b c.args.printer.now.tally c.args.text.now c.put.new.printer.tally) (grind (arith, common_steps, c.from_residual.ensures)) sent

pub returns-then-n-eq0 : goal.returns-then-n-eq0
returns-then-n-eq0 c =
    let a = c.loop-done in
    let n = c.in_ok-n in
    sent-some c.args.printer.now.tally a.printer.tally c.args.text.now a.done a.invariant.0 c.put.new.printer.tally n.n c.if-n-eq0.true n.ensures.ok.0 c.loop-done-test.true n.ensures.ok.1

pub loop-done-preserved : goal.loop-done-preserved
loop-done-preserved c =
    let a = c.loop-done in
    let n = c.in_ok-n in
    let most = rest-most c.args.printer.now.tally a.printer.tally c.args.text.now a.done a.invariant.0 n.n n.ensures.ok.0 in
    (tallied-more c.args.printer.now.tally a.printer.tally c.args.text.now a.done a.invariant.0 c.put.new.printer.tally n.n n.ensures.ok.0 n.ensures.ok.1, omega (arith, most))

pub returns : goal.returns
returns c =
    let a = c.loop-done in
    sent_all c.args.printer.now.tally a.printer.tally c.args.text.now a.done a.invariant.0 c.loop-done-test.false
