-- Its byte is set and its part is cleared.
use mathlib.Core.Path.{◌∙◌}
use lib.Dec.{lit≤}
use Prim.Native.Nat.{◌+◌}
use native.Mathlib.Omega.{arith}
use lib.ListN.{set, length-set}
use Rattle.parts.specs.Parts.{preset_on_at, preset_at, preset_bytes}
use Rattle.block_plain.proofs.Carried.{fits, cleared, cleared-long}
use Rattle.block_plain.proofs.end_preset.Goals as goal

pub slice_bounds-clear-end : goal.slice_bounds-clear-end
slice_bounds-clear-end c = simp length-set (omega (arith, c.requires))

pub returns : goal.returns
returns c =
    let start = c in
    cleared preset_at preset_bytes (set start.args.block.now preset_on_at 0) _ (fits start.args.block.now start.requires preset_on_at 0 (preset_at + preset_bytes) (lit≤ tt)) c.clear.ensures

pub shape_of-block : goal.shape_of-block
shape_of-block c =
    let start = c in
    cleared-long preset_at preset_bytes (set start.args.block.now preset_on_at 0) _ (fits start.args.block.now start.requires preset_on_at 0 (preset_at + preset_bytes) (lit≤ tt)) c.clear.ensures
    ∙ length-set start.args.block.now preset_on_at 0
