-- What a map word decides, field by field: whether it draws, what its tile's part is, and that an index over 0 is drawn.
-- Assumes nothing.
use Prim.Native.Nat.{ℕ, ◌+◌, ◌-◌, ◌*◌, ◌/◌, ◌%◌, ◌<◌, ◌≤◌}
use native.Mathlib.Omega.{arith}
use mathlib.Core.Path.{◌≡◌, refl, sym, ◌∙◌, ap}
use mathlib.Core.Bool.{Bool, true, false, cond, ◌&&◌}
use mathlib.Core.List.{List}
use mathlib.Core.Option.{none, some}
use lib.Dec.{leb}
use lib.ListN.{length, get_or, length-take, length-drop}
use borrow.Author.Tests.{le-leb, eq-eqb, ne_eqb, leb-true}
use Rattle.parts.specs.Parts.{tiles_bytes}
use Rattle.bits.proofs.Planes.{bit-lt}
use Rattle.bits.proofs.Tests.{and_left, and_right}
use Rattle.colour.specs.Entry.{tile_of, palette_of, flip_x, flip_y}
use Rattle.border.specs.Tile.{tile_part, index_in}
use Rattle.border.specs.Border.{entry_at, draws, flipped, index_of, in_palette, opaque, border_at}

-- what a word that draws names
pub drawn-tile : (w : ℕ) → draws w ≡ true → tile_of w ≤ 255
unfolding draws
drawn-tile w d = leb-true (tile_of w) 255 (and_left _ _ d)

pub drawn-palette : (w : ℕ) → draws w ≡ true → (4 ≤ palette_of w) × (palette_of w ≤ 6)
unfolding draws
drawn-palette w d =
    let q = and_right (leb (tile_of w) 255) (leb 4 (palette_of w) && leb (palette_of w) 6) d in
    (leb-true 4 (palette_of w) (and_left _ _ q), leb-true (palette_of w) 6 (and_right (leb 4 (palette_of w)) _ q))

pub tile-long : (tiles : List ℕ) (n : ℕ) → length tiles ≡ tiles_bytes → n ≤ 255 → length (tile_part tiles n) ≡ 32
unfolding tile_part
tile-long tiles n h k = rw (eq-eqb (length tiles) tiles_bytes h, le-leb n 255 k) (simp (length-take, length-drop) (omega arith))

-- a colour index has four bits
pub index-lt : (t : List ℕ) (row column : ℕ) → index_in t row column < 16
unfolding index_in
index-lt t row column =
    omega (
      arith,
      bit-lt (7 - column) (get_or t (row * 2) 0),
      bit-lt (7 - column) (get_or t (row * 2 + 1) 0),
      bit-lt (7 - column) (get_or t (row * 2 + 16) 0),
      bit-lt (7 - column) (get_or t (row * 2 + 17) 0),
    )

pub no_index : (tiles : List ℕ) (w x y : ℕ) → draws w ≡ false → index_of tiles w x y ≡ 0
unfolding index_of
no_index tiles w x y d = ap (λ (b : Bool). cond b (index_in (tile_part tiles (tile_of w)) (flipped (flip_y w) y) (flipped (flip_x w) x)) 0) d

-- an index over 0 is one of a word that draws
pub shown-drawn : (tiles : List ℕ) (w x y i : ℕ) → i ≡ index_of tiles w x y → (i ≡ 0 → ⊥) → draws w ≡ true
shown-drawn tiles w x y i e h = go (draws w) refl
  where
    go : (b : Bool) → draws w ≡ b → b ≡ true
    go true d = refl
    go false d = absurd (h (e ∙ no_index tiles w x y d))

pub an-index : (tiles t : List ℕ) (w x y n row column r : ℕ) → draws w ≡ true → n ≡ tile_of w → t ≡ tile_part tiles n
    → row ≡ flipped (flip_y w) y → column ≡ flipped (flip_x w) x → r ≡ index_in t row column → r ≡ index_of tiles w x y
unfolding index_of
an-index tiles t w x y n row column r d en et er ec e =
    e ∙ (λ i. index_in ((et ∙ ap (tile_part tiles) en) i) (er i) (ec i))
    ∙ (λ i. cond (sym d i) (index_in (tile_part tiles (tile_of w)) (flipped (flip_y w) y) (flipped (flip_x w) x)) 0)

-- the answer at a pixel, from its word and its index
module _ (tiles map palettes : List ℕ) (x y w i : ℕ) (ew : w ≡ entry_at map (x / 8) (y / 8)) (ei : i ≡ index_of tiles w (x % 8) (y % 8)) where
  told : opaque palettes w i ≡ border_at tiles map palettes x y
  unfolding border_at
  told = ap (opaque palettes w) ei ∙ ap (λ (v : ℕ). opaque palettes v (index_of tiles v (x % 8) (y % 8))) ew

  pub is-transparent : i ≡ 0 → none ≡ border_at tiles map palettes x y
  unfolding opaque
  is-transparent z = ap (λ (b : Bool). cond b none (some (in_palette palettes w i))) (sym (eq-eqb i 0 z)) ∙ told

  pub is-opaque : (v : ℕ) → (i ≡ 0 → ⊥) → v ≡ in_palette palettes w i → some v ≡ border_at tiles map palettes x y
  unfolding opaque
  is-opaque v h e = ap some e ∙ ap (λ (b : Bool). cond b none (some (in_palette palettes w i))) (sym (ne_eqb i 0 h)) ∙ told
