-- The new block, with bytes 3 and 4 set.
use mathlib.Core.List.{List}
use mathlib.Core.Path.{ap, ◌∙◌}
use Prim.Native.Nat.{ℕ}
use lib.ListN.{set}
use Rattle.parts.specs.Parts.{p15_at, both_at}
use Rattle.block_fresh.proofs.Made.{post_boot_made}
use Rattle.block_fresh.proofs.post_boot.Goals as goal

pub returns : goal.returns
returns c = ap (λ (l : List ℕ). set (set l p15_at 1) both_at 1) c.new.ensures ∙ post_boot_made
