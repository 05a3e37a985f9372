-- What a worker leaves: the block with one change to what screens change.
use Rattle.std.specs.Prelude.{ℕ, List}
use Rattle.transfer.specs.Pending.{fallen}
use Rattle.layout.specs.Block.{load, save}
use Rattle.layout.specs.Sgb.{Sgb, Snes}
use Rattle.block_fixed.specs.Changing.{pending_stored}

-- the unit after the change f, and its block
abbrev pub with_snes : (Snes → Snes) → Sgb → Sgb
with_snes f u = record { port = u.port; game = u.game; snes = f u.snes }

unfoldable pub snes_block : (Snes → Snes) → List ℕ → List ℕ
snes_block f b = save (with_snes f (load b))

-- the bytes with what a screen leaves pending
abbrev pub counted_down : List ℕ → List ℕ
counted_down b = pending_stored (fallen (load b).snes.pending) b
