-- What each completed command does to the unit. RULES 4. What a command computes is in the crates `palettes` and `commands`;
-- here stands where it goes. A plain command is not handed `Snes`, which screens change, and a fixed one is:
-- so a plain command and a screen may come in either order, and a reader sees it from the types.
use Rattle.std.specs.Prelude.{ℕ, List, get_or}
use Rattle.std.proofs.Math.Option.{Option, none, some}
use Rattle.transfer.specs.declared.pending.Pending.TheVariants.{In}
use Rattle.transfer.specs.declared.pending.Pending.{Pending}
use Rattle.palettes.specs.Palettes.{pal_pair, pal_set}
use Rattle.commands.specs.Command as command
use Rattle.commands.specs.Command.{Plain, Fixed, Command}
use Rattle.commands.specs.Files.{attr_set_map, pal_set_map}
use Rattle.commands.specs.Maps as maps
use Rattle.commands.specs.Mask.{cancelled}
use Rattle.commands.specs.Pads as pads
use Rattle.layout.specs.Sgb.{Sgb, Game, Snes}

-- ---- the game's part, changed in one place

unfoldable pub with_pads : ℕ → ℕ → Game → Game
with_pads i m g = record {
  mask = g.mask;
  index = i;
  pads = m;
  preset = g.preset;
  palettes = g.palettes;
  map = g.map;
  frozen = g.frozen;
}

-- a game that sets palettes ends the preset
unfoldable pub with_palettes : List ℕ → Game → Game
with_palettes p g = record {
  mask = g.mask;
  index = g.index;
  pads = g.pads;
  preset = none;
  palettes = p;
  map = g.map;
  frozen = g.frozen;
}

unfoldable pub with_map : List ℕ → Game → Game
with_map m g = record {
  mask = g.mask;
  index = g.index;
  pads = g.pads;
  preset = g.preset;
  palettes = g.palettes;
  map = m;
  frozen = g.frozen;
}

unfoldable pub with_mask : ℕ → Option (List ℕ) → Game → Game
with_mask m f g = record {
  mask = m;
  index = g.index;
  pads = g.pads;
  preset = g.preset;
  palettes = g.palettes;
  map = g.map;
  frozen = f;
}

-- PAL_SET and ATTR_SET: bit 6 of the flags ends the mask, and a frozen capture is left where it is (RULES 4.4)
unfoldable pub without_mask : ℕ → Game → Game
without_mask flags g = with_mask (cancelled flags g.mask) g.frozen g

-- ---- plain commands

unfoldable pub plainly : Plain → Game → Game
plainly (command.pal_pair a b d) g = with_palettes (pal_pair a b d g.palettes) g
plainly (command.attr_blk d) g = with_map (maps.attr_blk d g.map) g
plainly (command.attr_lin d) g = with_map (maps.attr_lin d g.map) g
plainly (command.attr_div d) g = with_map (maps.attr_div d) g
plainly (command.attr_chr d) g = with_map (maps.attr_chr d g.map) g
plainly (command.mlt_req d1) g = with_pads (pads.mlt_req d1 g.index).index (pads.mlt_req d1 g.index).mask g
plainly (command.mask_en m) g = with_mask m none g
plainly command.nothing g = g

-- ---- fixed commands: what they do to the game's part, and what is pending after them

unfoldable pub fixedly : Fixed → Snes → Game → Game
fixedly (command.pal_set d) s g =
    without_mask (get_or d 9 0) (with_map (pal_set_map (get_or d 9 0) s.files g.map) (with_palettes (pal_set d s.system) g))
fixedly (command.attr_set d) s g = without_mask (get_or d 1 0) (with_map (attr_set_map (get_or d 1 0) s.files g.map) g)
fixedly command.freeze s g = with_mask 1 (some s.live) g
fixedly (command.transfer t) s g = g

unfoldable pub with_pending : Pending → Snes → Snes
with_pending p s = record {
  pending = p;
  live = s.live;
  system = s.system;
  files = s.files;
  tiles = s.tiles;
  border_map = s.border_map;
  border_palettes = s.border_palettes;
}

-- a transfer is pending for three screens, in the place of any that was (RULES 4.12)
unfoldable pub fixed_snes : Fixed → Snes → Snes
fixed_snes (command.pal_set d) s = s
fixed_snes (command.attr_set d) s = s
fixed_snes command.freeze s = s
fixed_snes (command.transfer t) s = with_pending (In 3 t) s

-- ---- any command

unfoldable pub carried_game : Command → Snes → Game → Game
carried_game (command.plain c) s g = plainly c g
carried_game (command.fixed c) s g = fixedly c s g

unfoldable pub carried_snes : Command → Snes → Snes
carried_snes (command.plain c) s = s
carried_snes (command.fixed c) s = fixed_snes c s

-- a command carried out: the port is what told it, and stays
unfoldable pub carried : Command → Sgb → Sgb
carried c u = record { port = u.port; game = carried_game c u.snes u.game; snes = carried_snes c u.snes }
