-- One after the other, cells a byte each.
use native.Mathlib.Omega.{arith}
use mathlib.Core.Path.{◌∙◌}
use Rattle.bits.specs.Over.{part}
use Rattle.bits.proofs.Overs.{length_part}
use Rattle.state_out.proofs.Laying.{cells-laid}
use Rattle.parts.specs.Parts.{map_at, map_bytes, files_at, files_bytes}
use Rattle.state_spans.specs.Going.{state_of, laid}
use Rattle.state_out.proofs.lay_tables.Goals as goal

pub shape_of-palettes : goal.shape_of-palettes
shape_of-palettes c = c.put.auto.dst

pub shape_of-attribute_map : goal.shape_of-attribute_map
shape_of-attribute_map c = c.unpack_cells.auto.cells

pub shape_of-system_palettes : goal.shape_of-system_palettes
shape_of-system_palettes c = c.put-2.auto.dst

pub shape_of-attribute_files : goal.shape_of-attribute_files
shape_of-attribute_files c = c.unpack_cells-2.auto.cells

pub returns : goal.returns
unfolding state_of laid
returns c = let b = c.args.block.now in
    record { palettes_after = c.put.ensures; attribute_map_after = c.unpack_cells.ensures ∙ cells-laid map_bytes (part map_at map_bytes b) c.args.attribute_map.now (length_part map_at map_bytes b (omega arith)); system_palettes_after = c.put-2.ensures; attribute_files_after = c.unpack_cells-2.ensures ∙ cells-laid files_bytes (part files_at files_bytes b) c.args.attribute_files.now (length_part files_at files_bytes b (omega arith)) }
