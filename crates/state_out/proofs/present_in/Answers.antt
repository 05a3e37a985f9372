-- All of them, but for two that may be missing.
use mathlib.Core.Path.{◌∙◌}
use Prim.Native.Nat.{◌+◌}
use Rattle.bits.specs.Over.{part}
use Rattle.layout.specs.Block.{byte, is_set, held}
use Rattle.parts.specs.Parts.{preset_on_at, frozen_on_at, preset_at, preset_bytes, frozen_at, capture_bytes}
use Rattle.state_cells.specs.Cells.{unpack_cells}
use Rattle.state_spans.specs.State.{is_there}
use Rattle.state_spans.specs.Going.{state_of}
use Rattle.state_out.proofs.Laying.{present-sum}
use Rattle.state_out.proofs.present_in.Goals as goal

pub returns : goal.returns
unfolding state_of held is_there
returns c = let b = c.args.block.now in
    (λ t. 3711 + c.bit.ensures.0 t + c.bit-2.ensures.0 t)
    ∙ present-sum (is_set (byte frozen_on_at b)) (is_set (byte preset_on_at b)) (unpack_cells capture_bytes (part frozen_at capture_bytes b)) (part preset_at preset_bytes b)
