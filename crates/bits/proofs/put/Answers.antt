-- `bits::put` meets its contract: after i turns the first i elements stand in their places.
use mathlib.Core.Path.{◌≡◌, ◌∙◌}
use native.Mathlib.Numerals.{add-one}
use native.Mathlib.Omega.{arith}
use lib.ListN.{length}
use lib.Seq.{paste-zero, paste-suc}
use Rattle.bits.proofs.Overs.{paste-over}
use Rattle.bits.proofs.put.Goals as goal

pub loop-i-init : goal.loop-i-init
loop-i-init c = paste-zero _ c.args.at c.args.src.now

pub loop-i-preserved : goal.loop-i-preserved
loop-i-preserved c = let start = c.args in
    let l = c.loop-i in
    rw (l.invariant, add-one) (paste-suc _ start.at start.src.now l.i 0 (omega arith) (omega arith))

pub returns : goal.returns
returns c = let start = c.args in
    let e : c.loop-i.i ≡ length start.src.now = omega arith in
    c.loop-i.invariant ∙ rw e (paste-over start.dst.now start.at start.src.now)
