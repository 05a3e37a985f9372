-- Steps one after the other: a step that keeps the unit good leaves a valid block, and the next one starts from the unit that the step left.
use mathlib.Core.Path.{◌≡◌, refl, ap, ◌∙◌}
use mathlib.Core.List.{List}
use Prim.Native.Nat.{ℕ}
use lib.ListN.{length, get_or}
use Rattle.parts.specs.Parts.{map_bytes, files_bytes}
use Rattle.palettes.specs.Palettes as palette
use Rattle.palettes.proofs.Lengths.{length_pal-set}
use Rattle.commands.specs.Command.{fixed, pal_set, attr_set}
use Rattle.commands.specs.Files.{pal_set_map, attr_set_map}
use Rattle.commands.proofs.Sizes.{length-attr-set, length_pal-set as length-pal-set-map}
use Rattle.layout.specs.Block.{load, save}
use Rattle.layout.specs.Good.{Good, GoodGame, GoodSnes}
use Rattle.layout.specs.Sgb.{Sgb, Game, Snes}
use Rattle.layout.proofs.Goods.{valid-good, good-back, saved-valid}
use Rattle.rules.specs.Carry.{with_palettes, with_map, without_mask, fixedly, fixed_snes, carried_game, carried_snes, carried}
use Rattle.rules.proofs.Commands.{palettes-good, map-good}
use Rattle.block_plain.specs.Carrying.{Valid, carried_block, changed}
use Rattle.block_fixed.specs.Changing.{changed_block}

-- a change that keeps the game's part good
pub record Kept (f : Snes → Game → Game) : Type 0 where
  pub good : (s : Snes) (g : Game) → GoodSnes s → GoodGame g → GoodGame (f s g)

both-kept : (f h : Snes → Game → Game) → Kept f → Kept h → Kept (λ s g. h s (f s g))
both-kept f h k l = record { good = λ s g e i. l.good s (f s g) e (k.good s g e i) }

changed-good : (f : Snes → Game → Game) → Kept f → (b : List ℕ) → Valid b → Good (changed f (load b))
changed-good f k b v =
    let g = valid-good b v.tested in
    record { port = g.port; game = k.good (load b).snes (load b).game g.snes g.game; snes = g.snes }

pub changed-valid : (f : Snes → Game → Game) → Kept f → (b : List ℕ) → Valid b → (e : List ℕ) → e ≡ changed_block f b → Valid e
unfolding changed_block
changed-valid f k b v e q = saved-valid (changed f (load b)) (changed-good f k b v) e q

changed_again : (f h : Snes → Game → Game) → Kept f → (b : List ℕ) → Valid b → changed_block h (changed_block f b) ≡ changed_block (λ s g. h s (f s g)) b
unfolding changed_block
changed_again f h k b v = ap (λ (u : Sgb). save (changed h u)) (good-back (changed f (load b)) (changed-good f k b v))

-- ---- PAL_SET and ATTR_SET

abbrev pub taking : List ℕ → Snes → Game → Game
taking d s g = with_palettes (palette.pal_set d s.system) g

abbrev pub filing : (List ℕ → List ℕ → List ℕ) → Snes → Game → Game
filing f s g = with_map (f s.files g.map) g

abbrev pub unmasking : ℕ → Snes → Game → Game
unmasking flags s g = without_mask flags g

pub taking-kept : (d : List ℕ) → Kept (taking d)
taking-kept d = record { good = λ s g hs h. palettes-good g (palette.pal_set d s.system) h (length_pal-set d s.system hs.system) }

pub filing-kept : (f : List ℕ → List ℕ → List ℕ) → ((s m : List ℕ) → length s ≡ files_bytes → length m ≡ map_bytes → length (f s m) ≡ map_bytes) → Kept (filing f)
filing-kept f l = record { good = λ s g hs h. map-good g (f s.files g.map) h (l s.files g.map hs.files h.map) }

-- a file leaves ninety bytes
pub pal-long : (flags : ℕ) (s m : List ℕ) → length s ≡ files_bytes → length m ≡ map_bytes → length (pal_set_map flags s m) ≡ map_bytes
pal-long flags s m h e = length-pal-set-map s m h e flags

pub set_long : (flags : ℕ) (s m : List ℕ) → length s ≡ files_bytes → length m ≡ map_bytes → length (attr_set_map flags s m) ≡ map_bytes
set_long flags s m h e = length-attr-set s m h e flags

pub pal-set-done : (b : List ℕ) → Valid b → (d e₁ e₂ e₃ : List ℕ) → e₁ ≡ changed_block (taking d) b → e₂ ≡ changed_block (filing (pal_set_map (get_or d 9 0))) e₁
    → e₃ ≡ changed_block (unmasking (get_or d 9 0)) e₂ → e₃ ≡ carried_block (fixed (pal_set d)) b
pal-set-done b v d e₁ e₂ e₃ p q r =
    let flags = get_or d 9 0 in
    let pal = taking d in
    let file = filing (pal_set_map flags) in
    let kept = both-kept pal file (taking-kept d) (filing-kept (pal_set_map flags) (pal-long flags)) in
    r
    ∙ ap (changed_block (unmasking flags)) (q ∙ ap (changed_block file) p ∙ changed_again pal file (taking-kept d) b v)
    ∙ changed_again (λ s g. file s (pal s g)) (unmasking flags) kept b v
    ∙ (unfold changed_block carried_block carried carried_game carried_snes fixedly fixed_snes with_palettes in refl)

pub attr-set-done : (b : List ℕ) → Valid b → (d e₁ e₂ : List ℕ) → e₁ ≡ changed_block (filing (attr_set_map (get_or d 1 0))) b
    → e₂ ≡ changed_block (unmasking (get_or d 1 0)) e₁ → e₂ ≡ carried_block (fixed (attr_set d)) b
attr-set-done b v d e₁ e₂ p q =
    let flags = get_or d 1 0 in
    let file = filing (attr_set_map flags) in
    q
    ∙ ap (changed_block (unmasking flags)) p
    ∙ changed_again file (unmasking flags) (filing-kept (attr_set_map flags) (set_long flags)) b v
    ∙ (unfold changed_block carried_block carried carried_game carried_snes fixedly fixed_snes in refl)
