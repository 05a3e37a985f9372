-- The steps of a fixed command: the block whose game's part is changed, and the block with something pending.
use Rattle.std.specs.Prelude.{◌≡◌, ℕ, List, set, length}
use Rattle.parts.specs.Parts.{countdown_at, kind_at, map_bytes, files_bytes}
use Rattle.transfer.specs.Pending.{countdown_of, kind_of}
use Rattle.transfer.specs.declared.pending.Pending.{Pending}
use Rattle.layout.specs.Block.{load, save}
use Rattle.layout.specs.Sgb.{Game, Snes}
use Rattle.block_plain.specs.Carrying.{changed}

-- the block whose game's part is changed by f, which may look at what screens change
unfoldable pub changed_block : (Snes → Game → Game) → List ℕ → List ℕ
changed_block f b = save (changed f (load b))

-- the bytes with p pending
abbrev pub pending_stored : Pending → List ℕ → List ℕ
pending_stored p b = set (set b countdown_at (countdown_of p)) kind_at (kind_of p)

-- a change of the map, from the files, that keeps its ninety bytes
abbrev pub Filing : (List ℕ → List ℕ → List ℕ) → Type 0
Filing f = (files map : List ℕ) → length files ≡ files_bytes → length map ≡ map_bytes → length (f files map) ≡ map_bytes
