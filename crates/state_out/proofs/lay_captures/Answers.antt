-- The live capture, and the frozen one where there is one.
use native.Mathlib.Omega.{arith}
use lib.ListN.{length-take, length-drop}
use mathlib.Core.Path.{◌∙◌}
use Rattle.bits.specs.Over.{part}
use Rattle.bits.proofs.Overs.{length_part}
use Rattle.state_out.proofs.Laying.{cells-laid}
use borrow.Author.Tests.{eq-eqb, ne_eqb}
use Rattle.parts.specs.Parts.{live_at, frozen_at, capture_bytes}
use Rattle.state_spans.specs.Going.{state_of, laid}
use Rattle.state_out.proofs.lay_captures.Goals as goal

pub unpack_cells-requires-then-block-eq1 : goal.unpack_cells-requires-then-block-eq1
unpack_cells-requires-then-block-eq1 c = simp (length-take, length-drop) (omega arith)

pub shape_of-capture-then-block-eq1 : goal.shape_of-capture-then-block-eq1
shape_of-capture-then-block-eq1 c = c.unpack_cells.auto.cells

pub shape_of-frozen_capture : goal.shape_of-frozen_capture
shape_of-frozen_capture c = c.unpack_cells-then-block-eq1.auto.cells

pub returns-then-block-eq1 : goal.returns-then-block-eq1
unfolding state_of laid
returns-then-block-eq1 c = let b = c.args.block.now in
    record {
      capture_after = c.unpack_cells.ensures ∙ cells-laid capture_bytes (part live_at capture_bytes b) c.args.capture.now (length_part live_at capture_bytes b (omega arith));
      frozen_capture_after = rw (eq-eqb _ _ c.if-block-eq1.true)
          (c.unpack_cells-then-block-eq1.ensures ∙ cells-laid capture_bytes (part frozen_at capture_bytes b) c.args.frozen_capture.now (length_part frozen_at capture_bytes b (omega arith)));
    }

pub shape_of-capture-else-block-eq1 : goal.shape_of-capture-else-block-eq1
shape_of-capture-else-block-eq1 c = c.unpack_cells.auto.cells

pub returns-else-block-eq1 : goal.returns-else-block-eq1
unfolding state_of laid
returns-else-block-eq1 c = let b = c.args.block.now in
    record { capture_after = c.unpack_cells.ensures ∙ cells-laid capture_bytes (part live_at capture_bytes b) c.args.capture.now (length_part live_at capture_bytes b (omega arith)); frozen_capture_after = rw (ne_eqb _ _ c.if-block-eq1.false) }
