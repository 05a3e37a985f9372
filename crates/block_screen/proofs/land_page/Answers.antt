-- The part that comes back is the one that changes.
use mathlib.Core.Path.{◌∙◌}
use native.Mathlib.Omega.{arith}
use Rattle.parts.specs.Parts.{border_map_at, border_bytes}
use Rattle.bits.proofs.Overs.{length_part}
use Rattle.block_screen.proofs.Landings.{palettes-landed, files-landed, border-landed}
use Rattle.block_screen.proofs.land_page.Goals as goal

pub land_map-requires : goal.land_map-requires
land_map-requires c =
    let start = c in
    (length_part border_map_at border_bytes start.args.block.now (omega (arith, start.requires.0.long)), start.requires.1)

pub returns-in-Palettes : goal.returns-in-Palettes
returns-in-Palettes c = palettes-landed _ c.requires.0 _ _ c.land_palettes.ensures ∙ rw c.in-Palettes.is

pub returns-in-Attributes : goal.returns-in-Attributes
returns-in-Attributes c = files-landed _ c.requires.0 _ _ c.land_files.ensures ∙ rw c.in-Attributes.is

pub returns-in-BorderTiles : goal.returns-in-BorderTiles
returns-in-BorderTiles c = c.land_half.ensures ∙ rw c.in-BorderTiles.is

pub returns-in-BorderMap : goal.returns-in-BorderMap
returns-in-BorderMap c = border-landed _ c.requires.0 _ _ c.land_map.ensures ∙ rw c.in-BorderMap.is
