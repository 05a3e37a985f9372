-- The unit as a record of three parts, split by who touches them (docs/ARCHITECTURE.md, The meaning).
-- RULES 1.4 and 1.5 have the same fields as bytes; `Block` next door turns one into the other.
use Rattle.std.specs.Prelude.{ℕ, List}
use Rattle.std.proofs.Math.Option.{Option}
use Rattle.receiver.specs.Port.{Port}
use Rattle.transfer.specs.declared.pending.Pending.{Pending}

-- what commands change: the mask, the pads, the palettes, the map. Only a command changes it, but for the joypad index
pub record Game : Type 0 where
  -- 0 off, 1 frozen, 2 black, 3 backdrop
  pub mask : ℕ
  pub index : ℕ
  pub pads : ℕ
  -- the preset while it is in force, four words
  pub preset : Option (List ℕ)
  -- four palettes of four words
  pub palettes : List ℕ
  -- the attribute map, packed
  pub map : List ℕ
  -- the frozen capture, if there is one
  pub frozen : Option (List ℕ)

-- what screens change. Of the commands only the fixed ones read it, or set `pending`
pub record Snes : Type 0 where
  pub pending : Pending
  -- the live capture
  pub live : List ℕ
  -- 512 system palettes of four words, 45 attribute files
  pub system : List ℕ
  pub files : List ℕ
  pub tiles : List ℕ
  pub border_map : List ℕ
  pub border_palettes : List ℕ

-- the port is the two lines and the receiver: only a write reads or changes it
pub record Sgb : Type 0 where
  pub port : Port
  pub game : Game
  pub snes : Snes
