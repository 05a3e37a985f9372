-- As long as none is counted, no LF went by.
use native.Mathlib.Omega.{arith}
use Rattle.log_line.proofs.Splitting.{lf_turn}
use Rattle.log_line.proofs.lines.count_lf.Goals as goal

pub loop-b-preserved : goal.loop-b-preserved
loop-b-preserved c =
    let l = c.loop-b in
    lf_turn c.args.chunk.now c.args.at l.b-index l.n c.from-n.result c.requires (omega arith) l.invariant.0 c.from-n.ensures l.invariant.1
