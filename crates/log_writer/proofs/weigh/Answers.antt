use Rattle.std.proofs.Common.{ℕ, ◌+◌, ◌%◌, ◌^◌, drop, ap, ◌∙◌, arith}
use Rattle.log_writer.specs.Tally.{tallied}
use Rattle.log_writer.proofs.Tallies.{tallied_turn, tallied_end}
use Rattle.log_writer.proofs.weigh.Goals as goal

pub loop-b-preserved : goal.loop-b-preserved
loop-b-preserved c =
    let a = c.loop-b in
    let text = c.args.text.now in
    ap (λ (b : ℕ). tallied ((a.tally + (4294967296 + b)) % 2 ^ 64) (drop (a.b-index + 1) text)) c.from.ensures ∙ tallied_turn a.tally text a.b-index c.loop-b-test.true ∙ a.invariant

pub returns : goal.returns
returns c = tallied_end c.loop-b.tally c.args.text.now c.loop-b.b-index _ (omega arith) c.loop-b.invariant
