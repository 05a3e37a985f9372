-- The map is copied out, changed, and put back.
use Prim.Native.Nat.{ℕ}
use lib.ListN.{length-replicate}
use Rattle.parts.specs.Parts.{map_bytes}
use Rattle.block_fixed.proofs.Carried.{file-put}
use Rattle.block_fixed.proofs.change_map.Goals as goal

pub returns : goal.returns
returns g c = λ f keeps told. file-put _ c.requires.valid f keeps _ _ _ _ (length-replicate {A = ℕ} map_bytes 0) c.put.ensures (told _ _ _ _ c.change.ensures) c.put-2.ensures
