-- The two passes give the screen: the first puts a page's plane bytes where their pixels will stand, the second packs each two in their place.
-- Assumes nothing.
use mathlib.Core.Path.{◌≡◌, refl, sym, ap, ap₂, subst, ◌∙◌}
use mathlib.Core.Bool.{Bool, true, false}
use mathlib.Core.List.{List, [], ◌∷◌, ◌++◌}
use Prim.Native.Nat.{ℕ, zero, suc, ◌+◌, ◌-◌, ◌*◌, ◌/◌, ◌%◌, ◌<◌, ◌≤◌}
use native.Mathlib.Omega.{arith}
use borrow.Author.Tests.{ltb-true, ltb-false}
use lib.Dec.{ltb}
use lib.ListN.{length, get_or, set, replicate, length-replicate, take-append-drop}
use Rattle.parts.specs.Parts.{capture_bytes}
use Rattle.bits.specs.Pair.{packed}
use Rattle.bits.specs.Plane.{shade_by, four_of}
use Rattle.bits.specs.Paint.{paint, Painted}
use Rattle.bits.specs.Over.{over}
use Rattle.bits.proofs.Overs.{set-over}
use Rattle.bits.proofs.Tests.{either}
use Rattle.bits.proofs.Zeros.{past_end}
use Rattle.bits.proofs.Pairs.{packed-same}
use Rattle.bits.proofs.Planes.{no_shade}
use Rattle.bits.proofs.Tabs.{length-tab, get_or-tab, tab-same}
use Rattle.bits.proofs.Painting.{painted_turn, painted-count, painted-run, painted_past, painted_all, painted-rest}
use Rattle.transfer.specs.Page.{page_bytes}
use Rattle.pages.specs.Pixels.{tile_number, page_tiles, page_byte, page_shade, screen_of}
use Rattle.pages.specs.Passes.{reached, fours_in, four_byte, row_byte, laid_byte, rows_of, packed_byte}

-- ---- nothing, beside and beneath the tiles

abbrev zeros : ℕ → List ℕ
zeros n = replicate n 0

abbrev none : List ℕ
none = 0 ∷ []

zeros_more : (n : ℕ) → zeros n ++ none ≡ zeros (suc n)
zeros_more zero = refl
zeros_more (suc n) = ap (λ (l : List ℕ). 0 ∷ l) (zeros_more n)

pub blanked : (l : List ℕ) (at n : ℕ) → at + n ≤ length l → over at n (replicate n 0) l ≡ paint l at n (λ i. 0)
unfolding paint
blanked l at zero h = take-append-drop at l
blanked l at (suc n) h =
    let less : at + n < length l = omega arith in
    let s : n + 1 ≡ suc n = omega arith in
    sym
    (ap (λ (m : List ℕ). set m (at + n) 0) (sym (blanked l at n (omega arith)))
    ∙ set-over at n (replicate n 0) l 0 less (length-replicate n 0)
    ∙ (λ t. over at (s t) (zeros_more n t) l))

-- ---- the first pass

-- two bytes of a tile's row
pub four_turn : (page l m : List ℕ) (o i c u v : ℕ) → Painted m l i (2 * c) (four_byte page o) → u ≡ get_or page (o + c * 16) 0 → v ≡ get_or page (o + c * 16 + 1) 0
    → Painted (set (set m (i + 2 * c) u) (i + 2 * c + 1) v) l i (2 * (c + 1)) (four_byte page o)
unfolding four_byte
four_turn page l m o i c u v p eu ev =
    let h : o + c * 16 ≡ o + 2 * c / 2 * 16 + 2 * c % 2 = omega arith in
    let h' : o + c * 16 + 1 ≡ o + (2 * c + 1) / 2 * 16 + (2 * c + 1) % 2 = omega arith in
    painted-count
    (painted_turn (painted_turn p (i + 2 * c) u refl (eu ∙ ap (λ (k : ℕ). get_or page k 0) h)) (i + 2 * c + 1) v (omega arith)
    (ev ∙ ap (λ (k : ℕ). get_or page k 0) h'))
    (2 * (c + 1))
    (omega arith)

-- four tiles more
pub fours_turn : (page l m o : List ℕ) (y g : ℕ) → Painted m l (y * 40) (8 * g) (row_byte page y)
    → Painted o m (y * 40 + 8 * g) 8 (four_byte page (y / 8 * 320 + y % 8 * 2 + g * 64)) → Painted o l (y * 40) (8 * (g + 1)) (row_byte page y)
unfolding row_byte four_byte
fours_turn page l m o y g p q =
    painted-count
    (painted-run p q refl
    (λ k h.
    let e : y / 8 * 320 + y % 8 * 2 + g * 64 + k / 2 * 16 + k % 2 ≡ (y / 8 * 20 + (8 * g + k) / 2) * 16 + y % 8 * 2 + (8 * g + k) % 2 = omega arith in
    ap (λ (n : ℕ). get_or page n 0) e))
    (8 * (g + 1))
    (omega arith)

-- a row's tiles that a page fills: no more than there are, and with the next ones the page has ended
pub record Fills (y f : ℕ) : Type 0 where
  pub few : f ≤ 5
  pub inside : y / 8 * 20 + 4 * f ≤ page_tiles
  pub ended : f < 5 → page_tiles ≤ y / 8 * 20 + 4 * f

pub fours-fill : (y f : ℕ) → y < 104 → f ≡ fours_in y → Fills y f
unfolding fours_in
fours-fill y f k e =
    subst (Fills y) (sym e)
    (either (Fills y) (ltb y 96) (λ t. let h = ltb-true y 96 t in record { few = omega arith; inside = omega arith; ended = λ l. omega arith })
    (λ t. let h = ltb-false y 96 t in record { few = omega arith; inside = omega arith; ended = λ l. omega arith }))

-- a row: its tiles, and nothing behind them
pub row_is : (page l m o : List ℕ) (y f : ℕ) → length page ≡ page_bytes → Fills y f → Painted m l (y * 40) (8 * f) (row_byte page y)
    → Painted o m (y * 40 + 8 * f) (40 - 8 * f) (λ i. 0) → Painted o l (y * 40) 40 (row_byte page y)
unfolding row_byte
row_is page l m o y f long fills p q =
    let few : f ≤ 5 = fills.few in
    painted-count
    (painted-run p q refl
    (λ i h.
    let less : f < 5 = omega arith in
    let past : page_tiles ≤ y / 8 * 20 + 4 * f = fills.ended less in
    let at : ℕ = (y / 8 * 20 + (8 * f + i) / 2) * 16 + y % 8 * 2 + (8 * f + i) % 2 in
    let far : length page ≤ at = omega arith in
    sym (past_end page at far)))
    40
    (omega arith)

-- the rows one after the other
pub rows_turn : (page l m o : List ℕ) (y : ℕ) → Painted m l 0 (y * 40) (laid_byte page) → Painted o m (y * 40) 40 (row_byte page y)
    → Painted o l 0 ((y + 1) * 40) (laid_byte page)
unfolding laid_byte
rows_turn page l m o y p q =
    painted-count
    (painted-run p q (omega arith) (λ i h. let e : y ≡ (y * 40 + i) / 40 = omega arith in let e' : i ≡ (y * 40 + i) % 40 = omega arith in ap₂ (row_byte page) e e'))
    ((y + 1) * 40)
    (omega arith)

-- and nothing beneath them
past_page : (page : List ℕ) (k : ℕ) → length page ≡ page_bytes → reached ≤ k → laid_byte page k ≡ 0
unfolding laid_byte row_byte
past_page page k long h = past_end page _ (omega arith)

pub rows_are : (page l m o : List ℕ) → length page ≡ page_bytes → length l ≡ capture_bytes → Painted m l 0 reached (laid_byte page)
    → Painted o m reached (capture_bytes - reached) (λ i. 0) → o ≡ rows_of page
unfolding rows_of
rows_are page l m o long e p q = painted_all (painted-run p q refl (λ i h. sym (past_page page (reached + i) long (omega arith)))) e

-- ---- the second

-- what two bytes were is read before they are written
pub pack_turn : (l m : List ℕ) (k u v : ℕ) → Painted m l 0 (2 * k) (packed_byte l) → u ≡ four_of 0 (get_or m (2 * k) 0) (get_or m (2 * k + 1) 0)
    → v ≡ four_of 1 (get_or m (2 * k) 0) (get_or m (2 * k + 1) 0)
    → Painted (set (set m (2 * k) u) (2 * k + 1) v) l 0 (2 * (k + 1)) (packed_byte l)
unfolding packed_byte
pack_turn l m k u v p eu ev =
    let h : 2 * k % 2 ≡ 0 = omega arith in
    let h' : (2 * k + 1) % 2 ≡ 1 = omega arith in
    let d : 2 * k / 2 ≡ k = omega arith in
    let d' : (2 * k + 1) / 2 ≡ k = omega arith in
    let a : get_or m (2 * k) 0 ≡ get_or l (2 * k) 0 = painted_past p (2 * k) (omega arith) in
    let b : get_or m (2 * k + 1) 0 ≡ get_or l (2 * k + 1) 0 = painted_past p (2 * k + 1) (omega arith) in
    painted-count
    (painted_turn (painted_turn p (2 * k) u (omega arith) (rw (h, d, sym a, sym b) eu)) (2 * k + 1) v (omega arith) (rw (h', d', sym a, sym b) ev))
    (2 * (k + 1))
    (omega arith)

-- ---- both

-- a page has nothing for the tiles that it doesn't fill, so that they need no test
pub shade_anywhere : (page : List ℕ) (x y : ℕ) → length page ≡ page_bytes
    → shade_by (page_byte page (tile_number x y) (y % 8) 0) (page_byte page (tile_number x y) (y % 8) 1) (x % 8) ≡ page_shade page x y
unfolding page_shade
shade_anywhere page x y long =
    let low : ℕ = tile_number x y * 16 + y % 8 * 2 + 0 in
    let high : ℕ = tile_number x y * 16 + y % 8 * 2 + 1 in
    either (λ s. shade_by (get_or page low 0) (get_or page high 0) (x % 8) ≡ s) (ltb (tile_number x y) page_tiles) (λ e. refl)
    (λ e.
    let h : page_tiles ≤ tile_number x y = ltb-false (tile_number x y) page_tiles e in
    rw (past_end page low (omega arith), past_end page high (omega arith)) (no_shade (x % 8)))

-- where the four pixels of byte k stand
row_of : (k j : ℕ) → j < 4 → (4 * k + j) / 160 ≡ k / 40
row_of k j h = omega arith

column_of : (k j : ℕ) → j < 4 → (4 * k + j) % 160 ≡ 4 * (k % 40) + j
column_of k j h = omega arith

tile_column : (c j : ℕ) → j < 4 → (4 * c + j) / 8 ≡ c / 2
tile_column c j h = omega arith

pixel_of : (k j : ℕ) → j < 4 → (4 * (k % 40) + j) % 8 ≡ 4 * (k % 2) + j
pixel_of k j h = omega arith

-- where the two bytes of place k were laid: in its row, from its tile, one for each plane
laid-row : (k p : ℕ) → p < 2 → (2 * (k / 2) + p) / 40 ≡ k / 40
laid-row k p h = omega arith

laid-tile : (k p : ℕ) → p < 2 → (2 * (k / 2) + p) % 40 / 2 ≡ k % 40 / 2
laid-tile k p h = omega arith

laid_plane : (k p : ℕ) → p < 2 → (2 * (k / 2) + p) % 40 % 2 ≡ p
laid_plane k p h = omega arith

laid_at : (page : List ℕ) (k p : ℕ) → p < 2 → 2 * (k / 2) + p < capture_bytes
    → get_or (rows_of page) (2 * (k / 2) + p) 0 ≡ page_byte page (k / 40 / 8 * 20 + k % 40 / 2) (k / 40 % 8) p
unfolding rows_of laid_byte row_byte
laid_at page k p h less =
    get_or-tab capture_bytes (laid_byte page) (2 * (k / 2) + p) less
    ∙ (λ i. page_byte page (laid-row k p h i / 8 * 20 + laid-tile k p h i) (laid-row k p h i % 8) (laid_plane k p h i))

packed_is : (page : List ℕ) (k : ℕ) → length page ≡ page_bytes → k < capture_bytes
    → packed_byte (rows_of page) k ≡ packed (λ j. page_shade page ((4 * k + j) % 160) ((4 * k + j) / 160))
unfolding packed_byte four_of
packed_is page k long h =
    let first : 2 * (k / 2) ≡ 2 * (k / 2) + 0 = omega arith in
    let low = ap (λ (n : ℕ). get_or (rows_of page) n 0) first ∙ laid_at page k 0 (omega arith) (omega arith) in
    let high = laid_at page k 1 (omega arith) (omega arith) in
    packed-same _ _
    (λ j lt.
    (λ i. shade_by (low i) (high i) (4 * (k % 2) + j))
    ∙ sym
    (λ i.
    shade_by (page_byte page (row_of k j lt i / 8 * 20 + columns j lt i) (row_of k j lt i % 8) 0)
    (page_byte page (row_of k j lt i / 8 * 20 + columns j lt i) (row_of k j lt i % 8) 1) (pixels j lt i))
    ∙ shade_anywhere page ((4 * k + j) % 160) ((4 * k + j) / 160) long)
  where
    columns : (j : ℕ) → j < 4 → (4 * k + j) % 160 / 8 ≡ k % 40 / 2
    columns j lt = ap (λ (n : ℕ). n / 8) (column_of k j lt) ∙ tile_column (k % 40) j lt

    pixels : (j : ℕ) → j < 4 → (4 * k + j) % 160 % 8 ≡ 4 * (k % 2) + j
    pixels j lt = ap (λ (n : ℕ). n % 8) (column_of k j lt) ∙ pixel_of k j lt

-- beneath what a page reaches nothing was laid, and there is nothing to pack
rows_long : (page : List ℕ) → length (rows_of page) ≡ capture_bytes
unfolding rows_of
rows_long page = length-tab capture_bytes (laid_byte page)

none-laid : (page : List ℕ) (k : ℕ) → length page ≡ page_bytes → reached ≤ k → get_or (rows_of page) k 0 ≡ 0
none-laid page k long h = go (ltb k capture_bytes) refl
  where
    go : (t : Bool) → ltb k capture_bytes ≡ t → get_or (rows_of page) k 0 ≡ 0
    go true q = unfold rows_of in get_or-tab capture_bytes (laid_byte page) k (ltb-true k capture_bytes q) ∙ past_page page k long h
    go false q = past_end (rows_of page) k (omega (arith, rows_long page, ltb-false k capture_bytes q))

none-packed : (page : List ℕ) (k : ℕ) → length page ≡ page_bytes → reached ≤ k → packed_byte (rows_of page) k ≡ 0
unfolding packed_byte four_of
none-packed page k long h =
    rw (none-laid page (2 * (k / 2)) long (omega arith), none-laid page (2 * (k / 2) + 1) long (omega arith))
    (packed-same (λ j. shade_by 0 0 (4 * (k % 2) + j)) (λ j. 0) (λ j l. no_shade (4 * (k % 2) + j)) ∙ unfold packed in refl)

pub screen_is : (page rows screen : List ℕ) → length page ≡ page_bytes → rows ≡ rows_of page → Painted screen rows 0 reached (packed_byte rows) → screen ≡ screen_of page
unfolding screen_of
screen_is page rows screen long e p =
    let q : Painted screen (rows_of page) 0 reached (packed_byte (rows_of page)) = subst (λ (r : List ℕ). Painted screen r 0 reached (packed_byte r)) e p in
    painted-rest q capture_bytes (rows_long page) (omega arith) (λ k h. none-laid page k long h ∙ sym (none-packed page k long h))
    ∙ tab-same capture_bytes (packed_byte (rows_of page)) _ (λ k h. packed_is page k long h)
