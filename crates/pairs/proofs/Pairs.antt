-- Every row of the table holds: both of its sides compute to the same numbers.
use mathlib.Core.Path.{◌≡◌, refl}
use mathlib.Core.List.{map}
use lib.ListN.{length}
use Rattle.bits.specs.Bit.{bit_at, bit_of}
use Rattle.bits.specs.Pair.{pair_of, packed}
use Rattle.bits.specs.Plane.{byte_of, shade_of, plane_of}
use Rattle.colour.specs.Colour.{red, green, blue, gamma_ramp, ramp, rgb8}
use Rattle.colour.specs.Entry.{tile_of, palette_of, flip_x, flip_y}
use Rattle.receiver.specs.Count.{code_of, count_of}
use Rattle.bits.specs.Tab.{tab, tab_from}
use Rattle.attribute_map.specs.Map.{pack, unpack, grid, rows_from}
use Rattle.attribute_map.specs.Data.{steps}
use Rattle.attribute_blocks.specs.Blk.{on_line, blk_pick, blk_cell, set_at, blk_map}
use Rattle.commands.specs.Maps.{attr_blk}
use Rattle.commands.specs.Pads.{mlt_index, mlt_req}
use Rattle.pairs.specs.Table.{table}

pub pairs_on-each_edge : map (λ row. row.0) table ≡ map (λ row. row.1) table
unfolding table bit_at bit_of pair_of packed byte_of shade_of plane_of red green blue gamma_ramp ramp rgb8 tile_of palette_of flip_x flip_y code_of count_of mlt_index mlt_req attr_blk pack unpack grid rows_from tab tab_from steps on_line blk_pick blk_cell set_at blk_map
pairs_on-each_edge = refl

pub twelve : length table ≡ 12
unfolding table
twelve = refl
