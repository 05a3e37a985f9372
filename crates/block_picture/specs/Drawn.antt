-- What is drawn of a unit: its parts as the picture takes them, and the colours, the row and the picture that they give.
-- RULES 5.5 and 6.
use Rattle.std.specs.Prelude.{ℕ, List, ◌++◌, drop}
use Rattle.std.proofs.Math.Option.{Option}
use Rattle.screen.specs.Displayed.{displayed}
use Rattle.screen.specs.Colours.{backdrop_of, colour_at}
use Rattle.border.specs.Border.{border_at}
use Rattle.picture.specs.Picture.{Parts, row_of, picture_of}
use Rattle.parts.specs.Parts.{preset_bytes, capture_bytes}
use Rattle.layout.specs.Block.{is_set, is_held, held_bytes, load}
use Rattle.layout.specs.Sgb.{Sgb}

-- the parts of a unit that the picture is drawn from
unfoldable pub parts_of : Sgb → Parts
parts_of u = record {
  palettes = u.game.palettes;
  preset = held_bytes preset_bytes u.game.preset;
  in_force = is_set (is_held u.game.preset);
  attributes = u.game.map;
  screen = displayed u.snes.live (held_bytes capture_bytes u.game.frozen) u.game.mask;
  mode = u.game.mask;
  tiles = u.snes.tiles;
  map = u.snes.border_map;
  borders = u.snes.border_palettes;
}

-- the backdrop, a shade at column x of row y of the screen, the border's colour at column x of row y of the picture
unfoldable pub backdrop_in : Parts → ℕ
backdrop_in p = backdrop_of p.palettes p.preset p.in_force

unfoldable pub shade_in : Parts → ℕ → ℕ → ℕ → ℕ
shade_in p x y shade = colour_at p.palettes p.preset p.in_force p.attributes x y shade

unfoldable pub border_in : Parts → ℕ → ℕ → Option ℕ
border_in p x y = border_at p.tiles p.map p.borders x y

-- a row and the picture, at the front of an output that keeps its tail
unfoldable pub row_drawn : List ℕ → ℕ → List ℕ → List ℕ
row_drawn b y out = row_of (parts_of (load b)) y ++ drop 256 out

unfoldable pub picture_drawn : List ℕ → List ℕ → List ℕ
picture_drawn b out = picture_of (parts_of (load b)) ++ drop 57344 out
