-- The line is that of the block's first bytes.
use mathlib.Core.Path.{◌≡◌}
use native.Mathlib.Omega.{arith}
use lib.ListN.{length}
use Rattle.log_chunks.specs.Texts.{head_line}
use Rattle.log_chunks.proofs.Coded.{head-short}
use Rattle.log_chunks.proofs.head_line.Goals as goal

pub returns : goal.returns
returns c =
    let start = c in
    let l = c.command_line.ensures in
    let e : c.command_line.result ≡ length (head_line start.args.block.now) = (unfold head_line in l.value) in
    record { value = (e, omega (arith, e, head-short start.args.block.now)); out_after = (unfold head_line in l.out_after) }
