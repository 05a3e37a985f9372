-- One after the other.
use native.Mathlib.Omega.{arith}
use lib.ListN.{length-take, length-drop}
use Rattle.state_spans.specs.Going.{state_of, laid}
use Rattle.state_out.proofs.lay_border.Goals as goal

pub put-requires : goal.put-requires
put-requires c = simp (length-take, length-drop) (omega arith)

pub put-requires-2 : goal.put-requires-2
put-requires-2 c = simp (length-take, length-drop) (omega arith)

pub put-requires-3 : goal.put-requires-3
put-requires-3 c = simp (length-take, length-drop) (omega arith)

pub shape_of-border_tiles : goal.shape_of-border_tiles
shape_of-border_tiles c = c.put.auto.dst

pub shape_of-border_map : goal.shape_of-border_map
shape_of-border_map c = c.put-2.auto.dst

pub shape_of-border_palettes : goal.shape_of-border_palettes
shape_of-border_palettes c = c.put-3.auto.dst

pub returns : goal.returns
unfolding state_of laid
returns c = record { border_tiles_after = c.put.ensures; border_map_after = c.put-2.ensures; border_palettes_after = c.put-3.ensures }
