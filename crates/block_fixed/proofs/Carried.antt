-- What each worker leaves is the block after its command: the callee's answer, put into the law of the part that it changes, here or
-- in `Steps` of the crate `block_plain`.
use mathlib.Core.Path.{◌≡◌, refl, sym, ap, ◌∙◌}
use mathlib.Core.Bool.{Bool, true, false, cond}
use mathlib.Core.List.{List}
use mathlib.Core.Option.{some}
use Prim.Native.Nat.{ℕ}
use native.Mathlib.Omega.{arith}
use lib.Dec.{lit≤, lit<}
use lib.ListN.{length, set, length-set}
use Rattle.parts.specs.Parts.{mask_at, frozen_on_at, countdown_at, kind_at, palettes_at, palettes_bytes, map_at, map_bytes, system_at, system_bytes, files_at, files_bytes, live_at, capture_bytes, frozen_at}
use Rattle.bits.specs.Bit.{bit_of}
use Rattle.bits.specs.Over.{part, over}
use Rattle.bits.proofs.Overs.{length_over, over_all}
use Rattle.palettes.specs.Palettes as palette
use Rattle.palettes.proofs.Lengths.{length_pal-set}
use Rattle.commands.specs.Command.{fixed, freeze, transfer}
use Rattle.commands.specs.Mask.{cancelled}
use Rattle.transfer.specs.Pending.{countdown_of, kind_of}
use Rattle.transfer.specs.declared.pending.Pending.{Pending}
use Rattle.transfer.specs.declared.pending.Pending.TheVariants.{In}
use Rattle.transfer.specs.declared.pending.Transfer.{Transfer}
use Rattle.layout.specs.Block.{load, save, is_held, held_bytes}
use Rattle.layout.proofs.Made.{made_of, made-set, made-save}
use Rattle.layout.proofs.Saved.{clauses, save-load, long-part}
use Rattle.rules.specs.Carry.{with_palettes, with_map, with_mask, without_mask, with_pending, fixedly, fixed_snes, carried_game, carried_snes, carried}
use Rattle.block_plain.specs.Carrying.{Valid, carried_block, changed, preset_ended}
use Rattle.block_plain.proofs.Steps.{map-put, mask-put, palettes-put}
use Rattle.block_fixed.specs.Changing.{changed_block, pending_stored}

-- a part that was copied to a place of its size
pub copied : (n : ℕ) (ys z l : List ℕ) → length ys ≡ n → length z ≡ n → l ≡ over 0 (length ys) ys z → l ≡ ys
copied n ys z l h k q = q ∙ over_all (length ys) ys z (k ∙ sym h)

-- ---- fixed commands, and the steps of PAL_SET and ATTR_SET

module _ (b : List ℕ) (v : Valid b) where
  mode-put : (m : ℕ) → set b mask_at m ≡ save (changed (λ s g. with_mask m g.frozen g) (load b))
  mode-put m = unfold with_mask in made-save (changed (λ s g. with_mask m g.frozen g) (load b)) (made-set (made_of b v.tested) mask_at m (lit< tt))

  pending-put : (p : Pending) → pending_stored p b ≡ save (record { port = (load b).port; game = (load b).game; snes = with_pending p (load b).snes })
  pending-put p =
      unfold with_pending in
      made-save (record { port = (load b).port; game = (load b).game; snes = with_pending p (load b).snes })
      (made-set (made-set (made_of b v.tested) countdown_at (countdown_of p) (lit< tt)) kind_at (kind_of p) (lit< tt))

  pub frozen-put : (shot last : List ℕ) → shot ≡ part live_at capture_bytes b → last ≡ over frozen_at (length shot) shot (set (set b mask_at 1) frozen_on_at 1) → last ≡ carried_block (fixed freeze) b
  unfolding carried_block carried carried_game carried_snes fixedly fixed_snes is_held held_bytes load
  frozen-put shot last p q =
      let n : length (part live_at capture_bytes b) ≡ capture_bytes = long-part b v.long live_at capture_bytes (lit≤ tt) in
      q
      ∙ ap (λ (l : List ℕ). over frozen_at (length l) l (set (set b mask_at 1) frozen_on_at 1)) p
      ∙ ap (λ (k : ℕ). over frozen_at k (part live_at capture_bytes b) (set (set b mask_at 1) frozen_on_at 1)) n
      ∙ mask-put b v 1 (some (part live_at capture_bytes b)) n

  pub frozen-long : (shot last : List ℕ) → shot ≡ part live_at capture_bytes b → last ≡ over frozen_at (length shot) shot (set (set b mask_at 1) frozen_on_at 1) → length last ≡ length b
  frozen-long shot last p q =
      let n : length shot ≡ capture_bytes = ap length p ∙ long-part b v.long live_at capture_bytes (lit≤ tt) in
      let e : length (set (set b mask_at 1) frozen_on_at 1) ≡ length b = length-set (set b mask_at 1) frozen_on_at 1 ∙ length-set b mask_at 1 in
      ap length q ∙ length_over frozen_at (length shot) shot (set (set b mask_at 1) frozen_on_at 1) (omega (arith, v.long)) refl ∙ e

  pub sent-put : (t : Transfer) → pending_stored (In 3 t) b ≡ carried_block (fixed (transfer t)) b
  unfolding carried_block carried carried_game carried_snes fixedly fixed_snes
  sent-put t = pending-put (In 3 t)

  pub palettes-taken : (d e ys last : List ℕ) → e ≡ preset_ended b → ys ≡ palette.pal_set d (part system_at system_bytes b) → last ≡ over palettes_at (length ys) ys e
      → last ≡ changed_block (λ s g. with_palettes (palette.pal_set d s.system) g) b
  unfolding changed_block
  palettes-taken d e ys last p q r =
      let k : length ys ≡ palettes_bytes = ap length q ∙ length_pal-set d (part system_at system_bytes b) (long-part b v.long system_at system_bytes (lit≤ tt)) in
      r
      ∙ ap (λ (n : ℕ). over palettes_at n ys e) k
      ∙ ap (over palettes_at palettes_bytes ys) p
      ∙ palettes-put b v ys k
      ∙ (unfold load in ap (λ (x : List ℕ). save (changed (λ s g. with_palettes x g) (load b))) q)

  pub file-put : (f : List ℕ → List ℕ → List ℕ) → ((s m : List ℕ) → length s ≡ files_bytes → length m ≡ map_bytes → length (f s m) ≡ map_bytes)
      → (z m₀ m₁ last : List ℕ) → length z ≡ map_bytes → m₀ ≡ over 0 (length (part map_at map_bytes b)) (part map_at map_bytes b) z → m₁ ≡ f (part files_at files_bytes b) m₀
      → last ≡ over map_at (length m₁) m₁ b → last ≡ changed_block (λ s g. with_map (f s.files g.map) g) b
  unfolding changed_block load
  file-put f l z m₀ m₁ last k p q r =
      let n : length (part map_at map_bytes b) ≡ map_bytes = long-part b v.long map_at map_bytes (lit≤ tt) in
      let e : m₁ ≡ f (part files_at files_bytes b) (part map_at map_bytes b) = q ∙ ap (f (part files_at files_bytes b)) (copied map_bytes (part map_at map_bytes b) z m₀ n k p) in
      let h : length m₁ ≡ map_bytes = ap length e ∙ l (part files_at files_bytes b) (part map_at map_bytes b) (long-part b v.long files_at files_bytes (lit≤ tt)) n in
      r
      ∙ ap (λ (i : ℕ). over map_at i m₁ b) h
      ∙ map-put b v m₁ h
      ∙ ap (λ (x : List ℕ). save (changed (λ s g. with_map x g) (load b))) e

  -- bit 6 is set, or the block stays
  pub unmasked : (flags : ℕ) → bit_of 6 flags ≡ true → set b mask_at 0 ≡ changed_block (λ s g. without_mask flags g) b
  unfolding changed_block without_mask cancelled
  unmasked flags e = mode-put 0 ∙ ap (λ (t : Bool). save (changed (λ s g. with_mask (cond t 0 g.mask) g.frozen g) (load b))) (sym e)

  pub still-masked : (flags : ℕ) → bit_of 6 flags ≡ false → b ≡ changed_block (λ s g. without_mask flags g) b
  unfolding changed_block without_mask cancelled with_mask
  still-masked flags e =
      sym (save-load b (clauses b v.tested))
      ∙ ap (λ (t : Bool). save (changed (λ s g. with_mask (cond t 0 g.mask) g.frozen g) (load b))) (sym e)
