-- What a worker on the block requires, and what it leaves: the block of the unit after a change or a command.
use Rattle.std.specs.Prelude.{ℕ, List, replicate, set}
use Rattle.commands.specs.Command.{Command}
use Rattle.bits.specs.Over.{over}
use Rattle.parts.specs.Parts.{preset_on_at, preset_at, preset_bytes}
use Rattle.layout.specs.Block.{load, save}
use Rattle.layout.specs.Sgb.{Sgb, Game, Snes}
use Rattle.rules.specs.Carry.{carried}
pub use Rattle.layout.specs.Valid.{Valid}

-- the block after command c
unfoldable pub carried_block : Command → List ℕ → List ℕ
carried_block c b = save (carried c (load b))

-- the unit whose game's part is changed by f, which may look at what screens change
abbrev pub changed : (Snes → Game → Game) → Sgb → Sgb
changed f u = record { port = u.port; game = f u.snes u.game; snes = u.snes }

-- the bytes with the preset ended: its flag and its words are zero
abbrev pub preset_ended : List ℕ → List ℕ
preset_ended b = over preset_at preset_bytes (replicate preset_bytes 0) (set b preset_on_at 0)
