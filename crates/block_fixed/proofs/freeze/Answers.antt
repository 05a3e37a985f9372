-- What was copied out is the live capture, and it goes in as the frozen one.
use mathlib.Core.Path.{◌≡◌, ap, ◌∙◌}
use Prim.Native.Nat.{ℕ}
use native.Mathlib.Omega.{arith}
use lib.Dec.{lit≤}
use lib.ListN.{length, set, length-set, length-replicate}
use Rattle.parts.specs.Parts.{block_bytes, mask_at, frozen_on_at, live_at, capture_bytes}
use Rattle.bits.specs.Over.{part}
use Rattle.layout.proofs.Saved.{long-part}
use Rattle.block_fixed.proofs.Carried.{copied, frozen-put, frozen-long}
use Rattle.block_fixed.proofs.freeze.Goals as goal

pub bounds-block-12 : goal.bounds-block-12
bounds-block-12 c =
    let e : length (set c.args.block.now mask_at 1) ≡ block_bytes = length-set c.args.block.now mask_at 1 ∙ c.requires.long in
    omega arith

pub put-requires-2 : goal.put-requires-2
put-requires-2 c =
    let n = long-part c.args.block.now c.requires.long live_at capture_bytes (lit≤ tt) in
    -- the local holds the live capture
    let shot : c.put.new.dst ≡ part live_at capture_bytes c.args.block.now =
    copied capture_bytes (part live_at capture_bytes c.args.block.now) _ _ n (length-replicate {A = ℕ} capture_bytes 0) c.put.ensures in
    let e : length (set (set c.args.block.now mask_at 1) frozen_on_at 1) ≡ block_bytes = length-set (set c.args.block.now mask_at 1) frozen_on_at 1 ∙ length-set c.args.block.now mask_at 1 ∙ c.requires.long in
    let l : length c.put.new.dst ≡ capture_bytes = ap length shot ∙ n in
    omega arith

pub shape_of-block : goal.shape_of-block
shape_of-block c =
    let n = long-part c.args.block.now c.requires.long live_at capture_bytes (lit≤ tt) in
    -- the local holds the live capture
    let shot : c.put.new.dst ≡ part live_at capture_bytes c.args.block.now =
    copied capture_bytes (part live_at capture_bytes c.args.block.now) _ _ n (length-replicate {A = ℕ} capture_bytes 0) c.put.ensures in
    frozen-long _ c.requires _ _ shot c.put-2.ensures

pub returns : goal.returns
returns c =
    let n = long-part c.args.block.now c.requires.long live_at capture_bytes (lit≤ tt) in
    -- the local holds the live capture
    let shot : c.put.new.dst ≡ part live_at capture_bytes c.args.block.now =
    copied capture_bytes (part live_at capture_bytes c.args.block.now) _ _ n (length-replicate {A = ℕ} capture_bytes 0) c.put.ensures in
    frozen-put _ c.requires _ _ shot c.put-2.ensures
