-- Each kind of run gives the run's pixels: a lane is the pixel's colour index, and what the kind leaves out would not be seen.
-- Assumes nothing.
use Prim.Native.Nat.{ℕ, zero, suc, ◌+◌, ◌-◌, ◌*◌, ◌/◌, ◌%◌, ◌<◌}
use native.Mathlib.Nat.{add-zero}
use native.Mathlib.Omega.{arith}
use mathlib.Core.Path.{◌≡◌, sym, ◌∙◌, ap}
use mathlib.Core.Bool.{Bool, true, false, cond}
use mathlib.Core.List.{List}
use lib.Dec.{eqb}
use lib.ListN.{get_or}
use borrow.Author.Tests.{ne_eqb}
use Rattle.bits.specs.Paint.{Painted}
use Rattle.bits.proofs.Painting.{painted_same}
use Rattle.colour.specs.Entry.{tile_of, flip_x, flip_y}
use Rattle.screen.specs.Packed.{pair_at, cell_at}
use Rattle.border.specs.Tile.{tile_part, index_in}
use Rattle.border.specs.Border.{entry_at, draws, flipped, index_of}
use Rattle.border.proofs.Entries.{index-lt}
use Rattle.picture_lanes.specs.Lanes.{lanes, lane}
use Rattle.picture_lanes.proofs.Laws.{lane_at, lane-zero}
use Rattle.picture_runs.specs.Runs.{Source, base_of, lane_shade, Packs, screen_from, within, run_pixel, pixel_in}

index_of-lt : (tiles : List ℕ) (w x y : ℕ) → index_of tiles w x y < 16
unfolding index_of
index_of-lt tiles w x y = pick (draws w) (index_in (tile_part tiles (tile_of w)) (flipped (flip_y w) y) (flipped (flip_x w) x)) (index-lt _ _ _)
  where
    pick : (b : Bool) (i : ℕ) → i < 16 → cond b i 0 < 16
    pick true i h = h
    pick false i h = omega arith

module _ (from : Source) (c y w l b at : ℕ) (ew : w ≡ entry_at from.map c (y / 8))
    (el : l ≡ lanes 8 (λ x. index_of from.tiles w x (y % 8))) (eb : b ≡ base_of w) where
  below : ℕ → ℕ
  below j = cond (within c y) (get_or from.game (cell_at from.attributes (c - 6) ((y - 40) / 8) * 4 + pair_at from.screen (screen_from c y + j)) 0) (get_or from.border 0 0)

  -- from the lanes and the palette's start
  by-lane : (j : ℕ) → j < 8 → (v : ℕ) → v ≡ run_pixel (lane l j) from.border b (below j) → v ≡ pixel_in from c y j
  unfolding pixel_in below
  by-lane j lt v e =
      let q : lane l j ≡ index_of from.tiles w j (y % 8) =
      ap (λ (n : ℕ). lane n j) el ∙ lane_at 8 (λ x. index_of from.tiles w x (y % 8)) (λ x. index_of-lt from.tiles w x (y % 8)) j lt in
      e ∙ (λ i. run_pixel (q i) from.border (eb i) (below j)) ∙ (λ i. run_pixel (index_of from.tiles (ew i) j (y % 8)) from.border (base_of (ew i)) (below j))

  on-screen : (s n j : ℕ) → within c y ≡ true → Packs s from.screen (screen_from c y) → n ≡ cell_at from.attributes (c - 6) ((y - 40) / 8) → j < 8
      → get_or from.game (n * 4 + lane_shade s j) 0 ≡ below j
  unfolding below
  on-screen s n j t p e lt =
      (λ i. get_or from.game (e i * 4 + p.is j lt i) 0)
      ∙ (λ i. cond (sym t i) (get_or from.game (cell_at from.attributes (c - 6) ((y - 40) / 8) * 4 + pair_at from.screen (screen_from c y + j)) 0) (get_or from.border 0 0))

  off-screen : (j : ℕ) → within c y ≡ false → get_or from.border 0 0 ≡ below j
  unfolding below
  off-screen j t = λ i. cond (sym t i) (get_or from.game (cell_at from.attributes (c - 6) ((y - 40) / 8) * 4 + pair_at from.screen (screen_from c y + j)) 0) (get_or from.border 0 0)

  -- no lane is set
  clear : (j v : ℕ) → l ≡ 0 → v ≡ below j → v ≡ run_pixel (lane l j) from.border b (below j)
  clear j v z e = e ∙ (λ i. cond (eqb (sym (lane-zero l j z) i) 0) (below j) (get_or from.border (b + lane l j) 0))

  pub game-run : (o m : List ℕ) (s n : ℕ) → within c y ≡ true → Packs s from.screen (screen_from c y) → n ≡ cell_at from.attributes (c - 6) ((y - 40) / 8) → l ≡ 0
      → Painted o m at 8 (λ j. get_or from.game (n * 4 + lane_shade s j) 0) → Painted o m at 8 (pixel_in from c y)
  game-run o m s n t p e z q = painted_same q _ (λ j lt. by-lane j lt _ (clear j _ z (on-screen s n j t p e lt)))

  pub both_run : (o m : List ℕ) (s n : ℕ) → within c y ≡ true → Packs s from.screen (screen_from c y) → n ≡ cell_at from.attributes (c - 6) ((y - 40) / 8)
      → Painted o m at 8 (λ j. run_pixel (lane l j) from.border b (get_or from.game (n * 4 + lane_shade s j) 0)) → Painted o m at 8 (pixel_in from c y)
  both_run o m s n t p e q = painted_same q _ (λ j lt. by-lane j lt _ (ap (λ (v : ℕ). run_pixel (lane l j) from.border b v) (on-screen s n j t p e lt)))

  pub plain-run : (o m : List ℕ) (color : ℕ) → color ≡ get_or from.border 0 0 → within c y ≡ false → l ≡ 0
      → Painted o m at 8 (λ j. color) → Painted o m at 8 (pixel_in from c y)
  plain-run o m color e t z q = painted_same q _ (λ j lt. by-lane j lt _ (clear j _ z (e ∙ off-screen j t)))

  -- off the screen, the table has the backdrop where a lane is 0
  first_of : (i : ℕ) → get_or from.border b 0 ≡ get_or from.border 0 0 → get_or from.border (b + i) 0 ≡ run_pixel i from.border b (get_or from.border 0 0)
  first_of zero h = ap (λ (k : ℕ). get_or from.border k 0) (add-zero b) ∙ h
  first_of (suc i) h = λ t. cond (sym (ne_eqb (suc i) 0 (λ e. omega arith)) t) (get_or from.border 0 0) (get_or from.border (b + suc i) 0)

  pub border-run : (o m : List ℕ) → within c y ≡ false → get_or from.border b 0 ≡ get_or from.border 0 0
      → Painted o m at 8 (λ j. get_or from.border (b + lane l j) 0) → Painted o m at 8 (pixel_in from c y)
  border-run o m t h q = painted_same q _ (λ j lt. by-lane j lt _ (first_of (lane l j) h ∙ ap (λ (v : ℕ). run_pixel (lane l j) from.border b v) (off-screen j t)))
