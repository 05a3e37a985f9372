-- What a screen leaves, told by parts (`Made`), is the block of the unit after it: the parts of the one are the parts of the other.
use mathlib.Core.Path.{◌≡◌, sym, ap, ◌∙◌}
use mathlib.Core.Bool.{true, false}
use mathlib.Core.List.{List}
use Rattle.std.specs.Prelude.{Option, Some, None}
use Prim.Native.Nat.{ℕ, ◌+◌, ◌≤◌}
use native.Mathlib.Omega.{arith}
use lib.Dec.{lit<, lit≤}
use lib.ListN.{length, take, drop, length-take, length-drop}
use Rattle.parts.specs.Parts.{countdown_at, kind_at, system_at, system_bytes, files_at, files_bytes, live_at, capture_bytes, tiles_at, tiles_bytes, half_bytes, upper_tiles_at, border_map_at, border_map_bytes, border_palettes_bytes, border_bytes}
use Rattle.bits.specs.Over.{part, over}
use Rattle.bits.proofs.Overs.{length_over, over_split}
use Rattle.transfer.specs.Landing.{palettes_landed, files_landed, tiles_landed, map_landed}
use Rattle.transfer.specs.Page.{page_bytes, page_of}
use Rattle.transfer.specs.Pending.{countdown_of, kind_of}
use Rattle.transfer.specs.Pending as pending
use Rattle.transfer.specs.declared.pending.Transfer.{Transfer}
use Rattle.transfer.specs.declared.pending.Pending.{Pending}
use Rattle.transfer.specs.declared.pending.Transfer.TheVariants.{Palettes, Attributes, BorderTiles, BorderMap}
use Rattle.transfer.proofs.Parts.{page-long, border_long}
use Rattle.layout.specs.Block.{load, save, parts}
use Rattle.layout.specs.Good.{Good}
use Rattle.layout.specs.Sgb.{Sgb}
use Rattle.layout.specs.Valid.{Valid}
use Rattle.layout.proofs.Goods.{valid-good, good-back, saved-valid}
use Rattle.layout.proofs.Made.{Made, made_of, made_put, made-set, made-save, over-inside}
use Rattle.layout.proofs.Saved.{clauses, save-load, long-part}
use Rattle.rules.specs.Screen.{captured, with_system, with_files, with_tiles, with_border, landed, landing, shown, screened}
use Rattle.rules.proofs.Keeps.{captured-good}
use Rattle.block_fixed.specs.Changing.{pending_stored}
use Rattle.block_screen.specs.Shown.{with_snes, snes_block, counted_down}

-- ---- the two bytes

-- each call's answer put in
pub counted-down : (b last : List ℕ) (p q : Pending) → p ≡ (load b).snes.pending → q ≡ pending.fallen p → last ≡ pending_stored q b → last ≡ counted_down b
counted-down b last p q e f g = g ∙ ap (λ (x : Pending). pending_stored x b) (f ∙ ap pending.fallen e)

-- ---- the block with the unit changed in one place

module _ (b : List ℕ) (v : Valid b) where
  made : Made b (parts (load b))
  made = made_of b v.tested

  -- the live capture, and the countdown
  pub captured-put : (x e last : List ℕ) → length x ≡ capture_bytes → e ≡ counted_down b → last ≡ over live_at (length x) x e → last ≡ snes_block (captured x) b
  unfolding snes_block captured
  captured-put x e last l p q =
      let left = pending.fallen (load b).snes.pending in
      q
      ∙ ap (λ (n : ℕ). over live_at n x e) l
      ∙ ap (over live_at capture_bytes x) p
      ∙ made-save (with_snes (captured x) (load b))
      (made_put (made-set (made-set made countdown_at (countdown_of left) (lit< tt)) kind_at (kind_of left) (lit< tt)) 8 (lit< tt) x l)

  system-put : (ys : List ℕ) → length ys ≡ system_bytes → over system_at system_bytes ys b ≡ save (with_snes (with_system ys) (load b))
  system-put ys e = unfold with_system in made-save (with_snes (with_system ys) (load b)) (made_put made 6 (lit< tt) ys e)

  files-put : (ys : List ℕ) → length ys ≡ files_bytes → over files_at files_bytes ys b ≡ save (with_snes (with_files ys) (load b))
  files-put ys e = unfold with_files in made-save (with_snes (with_files ys) (load b)) (made_put made 7 (lit< tt) ys e)

  tiles-put : (ys : List ℕ) → length ys ≡ tiles_bytes → over tiles_at tiles_bytes ys b ≡ save (with_snes (with_tiles ys) (load b))
  tiles-put ys e = unfold with_tiles in made-save (with_snes (with_tiles ys) (load b)) (made_put made 10 (lit< tt) ys e)

  border-put : (ys : List ℕ) → length ys ≡ border_bytes → over border_map_at border_bytes ys b ≡ save (with_snes (with_border ys) (load b))
  unfolding with_border
  border-put ys e =
      let first : length (take border_map_bytes ys) ≡ border_map_bytes = simp length-take (omega arith) in
      let second : length (drop border_map_bytes ys) ≡ border_palettes_bytes = simp length-drop (omega arith) in
      over_split border_map_at border_map_bytes border_palettes_bytes ys b (omega (arith, v.long)) e
      ∙ made-save (with_snes (with_border ys) (load b)) (made_put (made_put made 11 (lit< tt) (take border_map_bytes ys) first) 12 (lit< tt) (drop border_map_bytes ys) second)

  -- ---- the landings

  pub nothing-landed : (x : List ℕ) → b ≡ snes_block (landed None x) b
  unfolding snes_block landed
  nothing-landed x = sym (save-load b (clauses b v.tested))

  pub palettes-landed : (x ys : List ℕ) → ys ≡ palettes_landed x → over system_at system_bytes ys b ≡ snes_block (landed (Some Palettes) x) b
  unfolding snes_block landed palettes_landed
  palettes-landed x ys q = ap (λ (l : List ℕ). over system_at system_bytes l b) q ∙ system-put (page_of x) (page-long x)

  pub files-landed : (x ys : List ℕ) → ys ≡ files_landed x → over files_at files_bytes ys b ≡ snes_block (landed (Some Attributes) x) b
  unfolding snes_block landed files_landed
  files-landed x ys q =
      let l : length (page_of x) ≡ page_bytes = page-long x in
      let e : length (take files_bytes (page_of x)) ≡ files_bytes = simp length-take (omega arith) in
      ap (λ (l : List ℕ). over files_at files_bytes l b) q ∙ files-put (take files_bytes (page_of x)) e

  -- the half that begins i bytes into the tiles
  half-put : (i : ℕ) → i + half_bytes ≤ tiles_bytes → (x : List ℕ) → over (tiles_at + i) half_bytes (page_of x) b ≡ save (with_snes (with_tiles (over i half_bytes (page_of x) (part tiles_at tiles_bytes b))) (load b))
  half-put i h x =
      let n : length (part tiles_at tiles_bytes b) ≡ tiles_bytes = long-part b v.long tiles_at tiles_bytes (lit≤ tt) in
      over-inside b v.long 10 i half_bytes h (lit≤ tt) (page_of x)
      ∙ tiles-put (over i half_bytes (page_of x) (part tiles_at tiles_bytes b)) (length_over i half_bytes (page_of x) (part tiles_at tiles_bytes b) (omega arith) (page-long x) ∙ n)

  pub lower-landed : (x ys : List ℕ) → ys ≡ tiles_landed x → over tiles_at half_bytes ys b ≡ snes_block (landed (Some (BorderTiles false)) x) b
  unfolding snes_block landed tiles_landed load
  lower-landed x ys q = ap (λ (l : List ℕ). over tiles_at half_bytes l b) q ∙ half-put 0 (lit≤ tt) x

  pub upper-landed : (x ys : List ℕ) → ys ≡ tiles_landed x → over upper_tiles_at half_bytes ys b ≡ snes_block (landed (Some (BorderTiles true)) x) b
  unfolding snes_block landed tiles_landed load
  upper-landed x ys q = ap (λ (l : List ℕ). over upper_tiles_at half_bytes l b) q ∙ half-put half_bytes (lit≤ tt) x

  pub border-landed : (x ys : List ℕ) → ys ≡ map_landed x → over border_map_at border_bytes ys b ≡ snes_block (landed (Some BorderMap) x) b
  unfolding snes_block landed
  border-landed x ys q = ap (λ (l : List ℕ). over border_map_at border_bytes l b) q ∙ border-put (map_landed x) (border_long x)

  -- ---- the whole

  captured-whole : (x : List ℕ) → length x ≡ capture_bytes → Good (with_snes (captured x) (load b))
  captured-whole x l =
      let g = valid-good b v.tested in
      record { port = g.port; game = g.game; snes = captured-good x (load b).snes l g.snes }

  pub captured-valid : (x e : List ℕ) → length x ≡ capture_bytes → e ≡ snes_block (captured x) b → Valid e
  unfolding snes_block
  captured-valid x e l q = saved-valid (with_snes (captured x) (load b)) (captured-whole x l) e q

  pub all_shown : (x : List ℕ) (n : Option Transfer) (e last : List ℕ) → length x ≡ capture_bytes → n ≡ landing (load b).snes → e ≡ snes_block (captured x) b
      → last ≡ snes_block (landed n x) e → last ≡ save (screened (load b) x)
  unfolding snes_block screened shown
  all_shown x n e last l p q r =
      r
      ∙ (λ t. snes_block (landed (p t) x) (q t))
      ∙ ap (λ (u : Sgb). save (with_snes (landed (landing (load b).snes) x) u)) (good-back (with_snes (captured x) (load b)) (captured-whole x l))
