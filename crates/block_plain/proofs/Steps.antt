-- What each worker leaves, told by parts (`Made`), is the block of the unit after its command: the parts of the one are the parts of the other.
use mathlib.Core.Path.{◌≡◌, sym, ap, ◌∙◌}
use mathlib.Core.List.{List, ◌∷◌}
use mathlib.Core.Option.{Option}
use Prim.Native.Nat.{ℕ}
use lib.Dec.{lit<}
use lib.ListN.{length, replicate, drop, set, length-replicate}
use Rattle.parts.specs.Parts.{mask_at, index_at, pads_at, preset_on_at, frozen_on_at, preset_bytes, palettes_at, palettes_bytes, map_at, map_bytes, capture_bytes, frozen_at}
use Rattle.bits.specs.Over.{part, over}
use Rattle.commands.specs.Command.{Plain, plain}
use Rattle.layout.specs.Block.{load, save, header, parts, is_held, held_bytes}
use Rattle.layout.specs.Good.{SizedIf}
use Rattle.layout.specs.Sgb.{Game}
use Rattle.layout.proofs.Fields.{held-length}
use Rattle.layout.proofs.Made.{Made, made_of, made_put, made-set, made_get, made-save}
use Rattle.rules.specs.Carry.{with_pads, with_palettes, with_map, with_mask, plainly, carried_game, carried_snes, carried}
use Rattle.block_plain.specs.Carrying.{Valid, carried_block, changed, preset_ended}

-- ---- the block with the unit changed in one place

module _ (b : List ℕ) (v : Valid b) where
  made : Made b (parts (load b))
  made = made_of b v.tested

  pub map-put : (ys : List ℕ) → length ys ≡ map_bytes → over map_at map_bytes ys b ≡ save (changed (λ s g. with_map ys g) (load b))
  map-put ys e = unfold with_map in made-save (changed (λ s g. with_map ys g) (load b)) (made_put made 5 (lit< tt) ys e)

  pub pads-put : (i m : ℕ) → set (set b index_at i) pads_at m ≡ save (changed (λ s g. with_pads i m g) (load b))
  pads-put i m =
      unfold with_pads in made-save (changed (λ s g. with_pads i m g) (load b)) (made-set (made-set made index_at i (lit< tt)) pads_at m (lit< tt))

  -- the mask and what is frozen
  pub mask-put : (m : ℕ) (f : Option (List ℕ)) → SizedIf capture_bytes f
      → over frozen_at capture_bytes (held_bytes capture_bytes f) (set (set b mask_at m) frozen_on_at (is_held f)) ≡ save (changed (λ s g. with_mask m f g) (load b))
  mask-put m f h =
      unfold with_mask in
      made-save (changed (λ s g. with_mask m f g) (load b))
      (made_put (made-set (made-set made mask_at m (lit< tt)) frozen_on_at (is_held f) (lit< tt)) 9 (lit< tt) (held_bytes capture_bytes f) (held-length capture_bytes f h))

  -- the preset ends: the block, its palettes, and those that take their place
  ended : Made (preset_ended b) (set (set (header (load b)) preset_on_at 0 ∷ drop 1 (parts (load b))) 3 (replicate preset_bytes 0))
  ended = made_put (made-set made preset_on_at 0 (lit< tt)) 3 (lit< tt) (replicate preset_bytes 0) (length-replicate {A = ℕ} preset_bytes 0)

  pub palettes-left : part palettes_at palettes_bytes (preset_ended b) ≡ (load b).game.palettes
  palettes-left = made_get ended 4 (lit< tt)

  pub palettes-put : (ys : List ℕ) → length ys ≡ palettes_bytes → over palettes_at palettes_bytes ys (preset_ended b) ≡ save (changed (λ s g. with_palettes ys g) (load b))
  palettes-put ys e =
      unfold with_palettes is_held held_bytes in
      made-save (changed (λ s g. with_palettes ys g) (load b)) (made_put ended 4 (lit< tt) ys e)

-- ---- plain commands

-- one that changes the map alone
pub map-changed : (c : Plain) (f : List ℕ → List ℕ) → ((g : Game) → plainly c g ≡ with_map (f g.map) g) → ((m : List ℕ) → length (f m) ≡ map_bytes)
    → (b ys : List ℕ) → Valid b → ys ≡ f (part map_at map_bytes b) → over map_at map_bytes ys b ≡ carried_block (plain c) b
unfolding carried_block carried carried_game carried_snes
map-changed c f e l b ys v q =
    map-put b v ys (ap length q ∙ l (part map_at map_bytes b))
    ∙ ap (λ (m : List ℕ). save (changed (λ s g. with_map m g) (load b))) q
    ∙ (unfold load in ap (λ (g : Game). save (changed (λ s h. g) (load b))) (sym (e (load b).game)))
