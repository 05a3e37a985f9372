-- A screen: what it answers and what it leaves. RULES 5.1 to 5.4. What lands is in the crate `transfer`.
use Rattle.std.specs.Prelude.{ℕ, true, false, List, take, drop, Option, Some, None}
use Rattle.bits.specs.Over.{over}
use Rattle.transfer.specs.Pending as pending
use Rattle.transfer.specs.Landing.{palettes_landed, files_landed, tiles_landed, map_landed}
use Rattle.transfer.specs.declared.pending.Transfer.{Transfer}
use Rattle.transfer.specs.declared.pending.Transfer.TheVariants.{Palettes, Attributes, BorderTiles, BorderMap}
use Rattle.parts.specs.Parts.{half_bytes, border_map_bytes}
use Rattle.layout.specs.Sgb.{Sgb, Snes}

-- the live capture is the screen, and the countdown has gone on
unfoldable pub captured : List ℕ → Snes → Snes
captured x s = record {
  pending = pending.fallen s.pending;
  live = x;
  system = s.system;
  files = s.files;
  tiles = s.tiles;
  border_map = s.border_map;
  border_palettes = s.border_palettes;
}

unfoldable pub with_system : List ℕ → Snes → Snes
with_system l s = record {
  pending = s.pending;
  live = s.live;
  system = l;
  files = s.files;
  tiles = s.tiles;
  border_map = s.border_map;
  border_palettes = s.border_palettes;
}

unfoldable pub with_files : List ℕ → Snes → Snes
with_files l s = record {
  pending = s.pending;
  live = s.live;
  system = s.system;
  files = l;
  tiles = s.tiles;
  border_map = s.border_map;
  border_palettes = s.border_palettes;
}

unfoldable pub with_tiles : List ℕ → Snes → Snes
with_tiles l s = record {
  pending = s.pending;
  live = s.live;
  system = s.system;
  files = s.files;
  tiles = l;
  border_map = s.border_map;
  border_palettes = s.border_palettes;
}

-- the border's map, and its palettes behind it
unfoldable pub with_border : List ℕ → Snes → Snes
with_border l s = record {
  pending = s.pending;
  live = s.live;
  system = s.system;
  files = s.files;
  tiles = s.tiles;
  border_map = take border_map_bytes l;
  border_palettes = drop border_map_bytes l;
}

-- what the screen x made land goes to its part
unfoldable pub landed : Option Transfer → List ℕ → Snes → Snes
landed None x s = s
landed (Some Palettes) x s = with_system (palettes_landed x) s
landed (Some Attributes) x s = with_files (files_landed x) s
landed (Some (BorderTiles false)) x s = with_tiles (over 0 half_bytes (tiles_landed x) s.tiles) s
landed (Some (BorderTiles true)) x s = with_tiles (over half_bytes half_bytes (tiles_landed x) s.tiles) s
landed (Some BorderMap) x s = with_border (map_landed x) s

-- the kind landed, or none
unfoldable pub landing : Snes → Option Transfer
landing s = pending.lands s.pending

unfoldable pub shown : Snes → List ℕ → Snes
shown s x = landed (landing s) x (captured x s)

unfoldable pub screened : Sgb → List ℕ → Sgb
screened u x = record { port = u.port; game = u.game; snes = shown u.snes x }
