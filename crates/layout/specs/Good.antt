-- What a valid block says of the unit that it holds: V1 to V6 again, of the record, and the size of each part.
-- A valid block holds a good unit; a good unit's block is valid and loads as that unit again (proofs/Goods).
use Rattle.std.specs.Prelude.{ℕ, ◌≤◌, ◌≡◌, true, cond, List, length}
use Rattle.std.proofs.Math.Option.{Option, none, some}
use Rattle.std.specs.Int.Bits.{bit_and}
use Rattle.receiver.specs.Port.{Port}
use Rattle.receiver.specs.Valid.{V3}
use Rattle.transfer.specs.declared.pending.Pending.{Pending}
use Rattle.transfer.specs.declared.pending.Pending.TheVariants.{Nothing, In}
use Rattle.parts.specs.Parts.{store_bytes, preset_bytes, palettes_bytes, map_bytes, system_bytes, files_bytes, capture_bytes, tiles_bytes, border_map_bytes, border_palettes_bytes}
use Rattle.layout.specs.Block.{is_held}
use Rattle.layout.specs.Valid.{mask_allows}
use Rattle.layout.specs.Sgb.{Sgb, Game, Snes}

-- V2 and V3 of the port
pub record GoodPort (p : Port) : Type 0 where
  pub lines : cond p.both p.p15 true ≡ true
  pub receiver : V3 p.rx p.store
  pub store : length p.store ≡ store_bytes

-- what may be missing has n bytes where it is there
abbrev pub SizedIf : ℕ → Option (List ℕ) → Type 0
SizedIf n none = Unit {0}
SizedIf n (some l) = length l ≡ n

-- V1, V5 and V6 of the game's part
pub record GoodGame (g : Game) : Type 0 where
  pub mask : g.mask ≤ 3
  pub pads : g.pads ≤ 3
  pub index : bit_and g.index g.pads ≡ g.index
  pub allowed : mask_allows g.mask (is_held g.frozen) ≡ true
  pub preset : SizedIf preset_bytes g.preset
  pub palettes : length g.palettes ≡ palettes_bytes
  pub map : length g.map ≡ map_bytes
  pub frozen : SizedIf capture_bytes g.frozen

-- V4 of what is pending
abbrev pub GoodPending : Pending → Type 0
GoodPending Nothing = Unit {0}
GoodPending (In n t) = (1 ≤ n) × (n ≤ 3)

pub record GoodSnes (s : Snes) : Type 0 where
  pub pending : GoodPending s.pending
  pub live : length s.live ≡ capture_bytes
  pub system : length s.system ≡ system_bytes
  pub files : length s.files ≡ files_bytes
  pub tiles : length s.tiles ≡ tiles_bytes
  pub border_map : length s.border_map ≡ border_map_bytes
  pub border_palettes : length s.border_palettes ≡ border_palettes_bytes

pub record Good (u : Sgb) : Type 0 where
  pub port : GoodPort u.port
  pub game : GoodGame u.game
  pub snes : GoodSnes u.snes
