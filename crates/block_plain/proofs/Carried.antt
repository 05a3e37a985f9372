-- What each worker leaves is the block after its command: the callee's answer, put into the law of the part that it changes (`Steps`).
use mathlib.Core.Path.{◌≡◌, sym, ap, ◌∙◌}
use mathlib.Core.List.{List}
use mathlib.Core.Option.{none}
use Prim.Native.Nat.{ℕ, ◌+◌, ◌<◌, ◌≤◌}
use native.Mathlib.Omega.{arith}
use lib.ListN.{length, get_or, replicate, set, length-set, length-replicate}
use Rattle.parts.specs.Parts.{block_bytes, mask_at, index_at, pads_at, frozen_on_at, palettes_at, palettes_bytes, capture_bytes, frozen_at}
use Rattle.bits.specs.Over.{part, over}
use Rattle.bits.proofs.Overs.{length_over, length_part}
use Rattle.palettes.specs.Palettes as palette
use Rattle.palettes.proofs.Lengths.{length_pal_pair}
use Rattle.commands.specs.Command.{plain, pal_pair, mlt_req, mask_en, nothing}
use Rattle.commands.specs.Pads as pads
use Rattle.commands.specs.declared.joypads.Pads.{Pads}
use Rattle.layout.specs.Block.{load, save, is_held, held_bytes}
use Rattle.layout.proofs.Goods.{valid-good}
use Rattle.layout.proofs.Saved.{clauses, save-load}
use Rattle.rules.specs.Carry.{with_palettes, plainly, carried_game, carried_snes, carried}
use Rattle.block_plain.specs.Carrying.{Valid, carried_block, changed, preset_ended}
use Rattle.block_plain.proofs.Steps.{pads-put, mask-put, palettes-left, palettes-put}

-- ---- bytes of any block

-- an end within the block is within it after a byte is set
pub fits : (b : List ℕ) → length b ≡ block_bytes → (i x n : ℕ) → n ≤ block_bytes → n ≤ length (set b i x)
fits b e i x n h = let l : length (set b i x) ≡ block_bytes = length-set b i x ∙ e in omega arith

-- a part that was cleared
pub cleared : (at n : ℕ) (b ys : List ℕ) → at + n ≤ length b → ys ≡ replicate (length (part at n b)) 0 → over at n ys b ≡ over at n (replicate n 0) b
cleared at n b ys h q = ap (λ (l : List ℕ). over at n l b) (q ∙ ap (λ (k : ℕ). replicate k 0) (length_part at n b h))

pub cleared-long : (at n : ℕ) (b ys : List ℕ) → at + n ≤ length b → ys ≡ replicate (length (part at n b)) 0 → length (over at n ys b) ≡ length b
cleared-long at n b ys h q = ap length (cleared at n b ys h q) ∙ length_over at n (replicate n 0) b h (length-replicate {A = ℕ} n 0)

-- ---- plain commands

module _ (b : List ℕ) (v : Valid b) where
  pub nothing-done : b ≡ carried_block (plain nothing) b
  unfolding carried_block carried carried_game carried_snes plainly
  nothing-done = sym (save-load b (clauses b v.tested))

  pub pads-changed : (d1 : ℕ) (p : Pads) → p ≡ pads.mlt_req d1 (get_or b index_at 0) → set (set b index_at p.index) pads_at p.mask ≡ carried_block (plain (mlt_req d1)) b
  unfolding carried_block carried carried_game carried_snes plainly load
  pads-changed d1 p q =
      ap (λ (x : Pads). set (set b index_at x.index) pads_at x.mask) q ∙ pads-put b v (pads.mlt_req d1 (get_or b index_at 0)).index (pads.mlt_req d1 (get_or b index_at 0)).mask

  pub mask-dropped : (m : ℕ) → over frozen_at capture_bytes (replicate capture_bytes 0) (set (set b mask_at m) frozen_on_at 0) ≡ carried_block (plain (mask_en m)) b
  unfolding carried_block carried carried_game carried_snes plainly is_held held_bytes
  mask-dropped m = mask-put b v m none tt

  -- the palettes are those of the block before its preset ended
  pub pair_put : (m n : ℕ) → m < 4 → n < 4 → (d e ys : List ℕ) → 16 ≤ length d → e ≡ preset_ended b → ys ≡ palette.pal_pair m n d (part palettes_at palettes_bytes e)
      → over palettes_at palettes_bytes ys e ≡ carried_block (plain (pal_pair m n d)) b
  unfolding carried_block carried carried_game carried_snes plainly
  pair_put m n hm hn d e ys l p q =
      let r : ys ≡ palette.pal_pair m n d (load b).game.palettes =
      q ∙ ap (λ (x : List ℕ). palette.pal_pair m n d (part palettes_at palettes_bytes x)) p ∙ ap (palette.pal_pair m n d) (palettes-left b v) in
      let k : length ys ≡ palettes_bytes = ap length r ∙ length_pal_pair m n d (load b).game.palettes hm hn l (valid-good b v.tested).game.palettes in
      ap (over palettes_at palettes_bytes ys) p ∙ palettes-put b v ys k ∙ ap (λ (x : List ℕ). save (changed (λ s g. with_palettes x g) (load b))) r
