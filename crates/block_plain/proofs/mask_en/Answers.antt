-- The mode and the flag are set, and the frozen capture is cleared.
use mathlib.Core.Path.{◌∙◌}
use lib.Dec.{lit≤}
use Prim.Native.Nat.{◌+◌}
use lib.ListN.{set, length-set}
use Rattle.parts.specs.Parts.{mask_at, frozen_on_at, capture_bytes, frozen_at, tiles_at}
use Rattle.block_plain.proofs.Carried.{fits, cleared, cleared-long, mask-dropped}
use Rattle.block_plain.proofs.mask_en.Goals as goal

pub slice_bounds-clear-end : goal.slice_bounds-clear-end
slice_bounds-clear-end c =
    let start = c in
    fits (set start.args.block.now mask_at start.args.mode) (length-set start.args.block.now mask_at start.args.mode ∙ start.requires.0.long) frozen_on_at 0 tiles_at (lit≤ tt)

pub shape_of-block : goal.shape_of-block
shape_of-block c =
    let start = c in
    cleared-long frozen_at capture_bytes (set (set start.args.block.now mask_at start.args.mode) frozen_on_at 0) _ (fits (set start.args.block.now mask_at start.args.mode) (length-set start.args.block.now mask_at start.args.mode ∙ start.requires.0.long) frozen_on_at 0 (frozen_at + capture_bytes) (lit≤ tt)) c.clear.ensures
    ∙ length-set (set start.args.block.now mask_at start.args.mode) frozen_on_at 0
    ∙ length-set start.args.block.now mask_at start.args.mode

pub returns : goal.returns
returns c =
    let start = c in
    cleared frozen_at capture_bytes (set (set start.args.block.now mask_at start.args.mode) frozen_on_at 0) _ (fits (set start.args.block.now mask_at start.args.mode) (length-set start.args.block.now mask_at start.args.mode ∙ start.requires.0.long) frozen_on_at 0 (frozen_at + capture_bytes) (lit≤ tt)) c.clear.ensures ∙ mask-dropped _ start.requires.0 start.args.mode
