-- By how many zeros stand before it.
use Prim.Native.Nat.{◌-◌}
use native.Mathlib.Omega.{arith}
use mathlib.Core.Path.{◌≡◌}
use lib.ListN.{length}
use Rattle.bits.specs.Over.{part}
use Rattle.bits.proofs.Overs.{length_part}
use Rattle.block_found.specs.Found.{found_told}
use Rattle.block_found.proofs.Firsts.{set-at, set-not}
use Rattle.block_found.proofs.set_in.Goals as goal

pub returns-then-n-to : goal.returns-then-n-to
unfolding found_told
returns-then-n-to c =
    let a = c.args in
    let l = part a.from (a.to - a.from) a.block.now in
    let k : length l ≡ a.to - a.from = length_part a.from (a.to - a.from) a.block.now (omega arith) in
    set-at a.from c.first_set-n.result l c.first_set-n.ensures (omega arith)

pub returns : goal.returns
unfolding found_told
returns c =
    let a = c.args in
    let l = part a.from (a.to - a.from) a.block.now in
    let k : length l ≡ a.to - a.from = length_part a.from (a.to - a.from) a.block.now (omega arith) in
    set-not a.from c.first_set-n.result l c.first_set-n.ensures (omega arith)
