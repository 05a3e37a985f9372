-- The page of the screen that carries a page is that page; and a screen whose other tiles are shade 0 is the screen that carries its page.
-- RULES 5.6. Assumes nothing.
use mathlib.Core.Path.{◌≡◌, refl, sym, ap, ap₂, ◌∙◌}
use mathlib.Core.Bool.{cond}
use mathlib.Core.List.{List}
use Prim.Native.Nat.{ℕ, zero, suc, ◌+◌, ◌-◌, ◌*◌, ◌/◌, ◌%◌, ◌<◌}
use native.Mathlib.Omega.{arith}
use borrow.Author.Tests.{lt-ltb, le-ltb, ltb-true, ltb-false}
use lib.Dec.{eqb, ltb}
use lib.ListN.{length, get_or}
use lib.Seq.{ext_get_or}
use Rattle.parts.specs.Parts.{capture_bytes}
use Rattle.bits.specs.Bit.{bit_at}
use Rattle.bits.specs.Pair.{pair_of, packed}
use Rattle.bits.specs.Plane.{shade_by}
use Rattle.bits.proofs.Tests.{either}
use Rattle.bits.proofs.Tabs.{length-tab, get_or-tab}
use Rattle.bits.proofs.Pairs.{pair_lt, pair_of-packed, packed-same, packed_of_pairs}
use Rattle.bits.proofs.Planes.{byte-same, byte_of-bits, shade-by-lt, bit_of_shade, shade_of-bytes}
use Rattle.screen.specs.Packed.{pair_at, shade_at}
use Rattle.transfer.specs.Page.{plane_byte, page_bytes, page_of}
use Rattle.transfer.proofs.Parts.{page-long}
use Rattle.pages.specs.Pixels.{tile_number, page_tiles, page_byte, page_shade, screen_of, OthersBlank}

-- ---- what stands on that screen

page_shade-lt : (page : List ℕ) (x y : ℕ) → page_shade page x y < 4
unfolding page_shade
page_shade-lt page x y = either (λ s. s < 4) (ltb (tile_number x y) page_tiles) (λ e. shade-by-lt _ _ (x % 8)) (λ e. omega arith)

pub screen_long : (page : List ℕ) → length (screen_of page) ≡ capture_bytes
unfolding screen_of
screen_long page = length-tab capture_bytes (λ i. packed (λ j. page_shade page ((4 * i + j) % 160) ((4 * i + j) / 160)))

pub shade-shown : (page : List ℕ) (x y : ℕ) → x < 160 → y < 144 → shade_at (screen_of page) x y ≡ page_shade page x y
unfolding pair_at screen_of
shade-shown page x y hx hy =
    let n : ℕ = y * 160 + x in
    let w : 4 * (n / 4) + n % 4 ≡ n = omega arith in
    let ex : (4 * (n / 4) + n % 4) % 160 ≡ x = omega arith in
    let ey : (4 * (n / 4) + n % 4) / 160 ≡ y = omega arith in
    let f : ℕ → ℕ = λ j. page_shade page ((4 * (n / 4) + j) % 160) ((4 * (n / 4) + j) / 160) in
    ap (λ (b : ℕ). pair_of b (n % 4)) (get_or-tab capture_bytes (λ i. packed (λ j. page_shade page ((4 * i + j) % 160) ((4 * i + j) / 160))) (n / 4) (omega arith))
    ∙ pair_of-packed f (λ i. page_shade-lt page _ _) (n % 4) (omega arith)
    ∙ ap₂ (page_shade page) ex ey

-- in its other tiles it is shade 0
pub others_blank : (page : List ℕ) → OthersBlank (screen_of page)
others_blank page x y hx hy h = shade-shown page x y hx hy ∙ unfold page_shade in rw (le-ltb (tile_number x y) page_tiles h) refl

-- ---- the page of that screen

-- a pixel of a tile that the page fills
filled : (page : List ℕ) (t r j : ℕ) → t < page_tiles → r < 8 → j < 8
    → shade_at (screen_of page) (t % 20 * 8 + j) (t / 20 * 8 + r) ≡ shade_by (page_byte page t r 0) (page_byte page t r 1) j
unfolding page_shade
filled page t r j ht hr hj =
    let x : ℕ = t % 20 * 8 + j in
    let y : ℕ = t / 20 * 8 + r in
    let et : tile_number x y ≡ t = omega arith in
    let er : y % 8 ≡ r = omega arith in
    let ej : x % 8 ≡ j = omega arith in
    let inside : tile_number x y < page_tiles = omega arith in
    shade-shown page x y (omega arith) (omega arith)
    ∙ rw (lt-ltb (tile_number x y) page_tiles inside) (λ i. shade_by (page_byte page (et i) (er i) 0) (page_byte page (et i) (er i) 1) (ej i))

pub plane-back : (page : List ℕ) (t r p : ℕ) → ((i : ℕ) → get_or page i 0 < 256) → t < page_tiles → r < 8 → p < 2 → plane_byte (screen_of page) t r p ≡ page_byte page t r p
unfolding plane_byte
plane-back page t r p bytes ht hr hp =
    let b : ℕ = cond (eqb p 0) (page_byte page t r 0) (page_byte page t r 1) in
    let bit : (j : ℕ) → j < 8 → bit_at p (shade_at (screen_of page) (t % 20 * 8 + j) (t / 20 * 8 + r)) ≡ bit_at (7 - j) b =
    λ j h. ap (bit_at p) (filled page t r j ht hr h) ∙ bit_of_shade p (page_byte page t r 0) (page_byte page t r 1) j hp in
    byte-same _ (λ j. bit_at (7 - j) b) (bit 0 (omega arith)) (bit 1 (omega arith)) (bit 2 (omega arith)) (bit 3 (omega arith)) (bit 4 (omega arith))
    (bit 5 (omega arith)) (bit 6 (omega arith)) (bit 7 (omega arith))
    ∙ byte_of-bits b (small p)
    ∙ one p hp
  where
    small : (p : ℕ) → cond (eqb p 0) (page_byte page t r 0) (page_byte page t r 1) < 256
    small p = either (λ n. n < 256) (eqb p 0) (λ e. bytes _) (λ e. bytes _)

    one : (p : ℕ) → p < 2 → cond (eqb p 0) (page_byte page t r 0) (page_byte page t r 1) ≡ page_byte page t r p
    one zero h = refl
    one (suc zero) h = refl
    one (suc (suc p)) h = absurd (omega arith)

-- the page of the screen that carries a page is the page
pub page-back : (page : List ℕ) → length page ≡ page_bytes → ((i : ℕ) → get_or page i 0 < 256) → page_of (screen_of page) ≡ page
unfolding page_of
page-back page long bytes =
    ext_get_or 0 (page_of (screen_of page)) page (page-long (screen_of page) ∙ sym long)
    (λ k lt.
    let less : k < page_bytes = omega (arith, page-long (screen_of page)) in
    let at : k / 16 * 16 + k % 16 / 2 * 2 + k % 2 ≡ k = omega arith in
    get_or-tab page_bytes (λ k. plane_byte (screen_of page) (k / 16) (k % 16 / 2) (k % 2)) k less
    ∙ plane-back page (k / 16) (k % 16 / 2) (k % 2) bytes (omega arith) (omega arith) (omega arith)
    ∙ ap (λ (i : ℕ). get_or page i 0) at)

-- ---- the screen of a screen's page

-- a page has the planes of its tiles
page_plane : (s : List ℕ) (t r p : ℕ) → t < page_tiles → r < 8 → p < 2 → page_byte (page_of s) t r p ≡ plane_byte s t r p
unfolding page_of
page_plane s t r p ht hr hp =
    let k : ℕ = t * 16 + r * 2 + p in
    let et : k / 16 ≡ t = omega arith in
    let er : k % 16 / 2 ≡ r = omega arith in
    let ep : k % 2 ≡ p = omega arith in
    get_or-tab page_bytes (λ k. plane_byte s (k / 16) (k % 16 / 2) (k % 2)) k (omega arith) ∙ (λ i. plane_byte s (et i) (er i) (ep i))

pub shade-back : (s : List ℕ) (x y : ℕ) → OthersBlank s → x < 160 → y < 144 → page_shade (page_of s) x y ≡ shade_at s x y
unfolding page_shade plane_byte pair_at
shade-back s x y blank hx hy =
    let t : ℕ = tile_number x y in
    let r : ℕ = y % 8 in
    let ex : t % 20 * 8 + x % 8 ≡ x = omega arith in
    let ey : t / 20 * 8 + r ≡ y = omega arith in
    either (λ v. v ≡ shade_at s x y) (ltb t page_tiles)
    (λ e.
    let h : t < page_tiles = ltb-true t page_tiles e in
    let hr : r < 8 = omega arith in
    ap₂ (λ (a b : ℕ). shade_by a b (x % 8)) (page_plane s t r 0 h hr (omega arith)) (page_plane s t r 1 h hr (omega arith))
    ∙ shade_of-bytes (λ j. shade_at s (t % 20 * 8 + j) (t / 20 * 8 + r)) (λ j. pair_lt _ _) (x % 8) (omega arith)
    ∙ ap₂ (shade_at s) ex ey)
    (λ e. sym (blank x y hx hy (ltb-false t page_tiles e)))

-- a screen whose other tiles are shade 0 is the screen that carries its own page
pub screen-back : (s : List ℕ) → length s ≡ capture_bytes → ((i : ℕ) → get_or s i 0 < 256) → OthersBlank s → screen_of (page_of s) ≡ s
unfolding screen_of pair_at
screen-back s long bytes blank =
    ext_get_or 0 (screen_of (page_of s)) s (screen_long (page_of s) ∙ sym long)
    (λ k lt.
    let less : k < capture_bytes = omega (arith, screen_long (page_of s)) in
    get_or-tab capture_bytes (λ i. packed (λ j. page_shade (page_of s) ((4 * i + j) % 160) ((4 * i + j) / 160))) k less
    ∙ packed-same _ (pair_of (get_or s k 0))
    (λ j h.
    let n : ℕ = (4 * k + j) / 160 * 160 + (4 * k + j) % 160 in
    let ek : n / 4 ≡ k = omega arith in
    let ej : n % 4 ≡ j = omega arith in
    shade-back s ((4 * k + j) % 160) ((4 * k + j) / 160) blank (omega arith) (omega arith) ∙ (λ i. pair_of (get_or s (ek i) 0) (ej i)))
    ∙ packed_of_pairs (get_or s k 0) (bytes k))

-- so there is one screen with that page and nothing else
pub only-screen : (s page : List ℕ) → length s ≡ capture_bytes → ((i : ℕ) → get_or s i 0 < 256) → OthersBlank s → page_of s ≡ page → s ≡ screen_of page
only-screen s page long bytes blank e = sym (screen-back s long bytes blank) ∙ ap screen_of e
