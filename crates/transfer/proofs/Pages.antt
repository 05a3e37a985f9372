-- The two passes give the page: the two packed bytes of a tile's row have the row's eight pixels, and the second pass only puts the tiles in order.
-- Assumes nothing.
use mathlib.Core.Path.{◌≡◌, refl, ap, ap₂, ◌∙◌}
use mathlib.Core.List.{List}
use Prim.Native.Nat.{ℕ, ◌+◌, ◌*◌, ◌/◌, ◌%◌, ◌<◌}
use native.Mathlib.Omega.{arith}
use lib.ListN.{length, get_or, set}
use Rattle.bits.specs.Bit.{bit_at}
use Rattle.bits.specs.Pair.{pair_of}
use Rattle.bits.specs.Plane.{shade_of, plane_of}
use Rattle.bits.specs.Paint.{Painted}
use Rattle.bits.proofs.Planes.{byte-same}
use Rattle.bits.proofs.Tabs.{get_or-tab}
use Rattle.bits.proofs.Painting.{painted_turn, painted-count, painted-run, painted_same, painted_all}
use Rattle.screen.specs.Packed.{pair_at, shade_at}
use Rattle.transfer.specs.Page.{plane_byte, page_bytes, page_of}
use Rattle.transfer.specs.Passes.{plane_at, planes_of, tile_byte, tiles_byte}

-- one bit of a plane, from the byte i and the place m in it that the n-th pixel has
bit-at : (s : List ℕ) (n p i m : ℕ) → i ≡ n / 4 → m ≡ n % 4 → bit_at p (pair_of (get_or s i 0) m) ≡ bit_at p (pair_at s n)
unfolding pair_at
bit-at s n p i m e f = λ t. bit_at p (pair_of (get_or s (e t) 0) (f t))

-- the two packed bytes of a tile's row
pub plane-at : (s : List ℕ) (t r p at : ℕ) → at ≡ (t / 20 * 8 + r) * 40 + t % 20 * 2 → plane_of p (get_or s at 0) (get_or s (at + 1) 0) ≡ plane_byte s t r p
unfolding plane_of plane_byte shade_of
plane-at s t r p at e =
    let first : ℕ = (t / 20 * 8 + r) * 160 in
    let c : ℕ = t % 20 * 8 in
    let bit : (j i m : ℕ) → i ≡ (first + (c + j)) / 4 → m ≡ (first + (c + j)) % 4 → bit_at p (pair_of (get_or s i 0) m) ≡ bit_at p (pair_at s (first + (c + j))) =
    λ j i m e f. bit-at s (first + (c + j)) p i m e f in
    byte-same (λ j. bit_at p (shade_of (get_or s at 0) (get_or s (at + 1) 0) j)) (λ j. bit_at p (shade_at s (c + j) (t / 20 * 8 + r)))
    (bit 0 at 0 (omega arith) (omega arith))
    (bit 1 at 1 (omega arith) (omega arith))
    (bit 2 at 2 (omega arith) (omega arith))
    (bit 3 at 3 (omega arith) (omega arith))
    (bit 4 (at + 1) 0 (omega arith) (omega arith))
    (bit 5 (at + 1) 1 (omega arith) (omega arith))
    (bit 6 (at + 1) 2 (omega arith) (omega arith))
    (bit 7 (at + 1) 3 (omega arith) (omega arith))

-- the first pass's turn
pub planes_turn : (s l m : List ℕ) (k u v : ℕ) → Painted m l 0 (2 * k) (λ i. plane_at s (i / 2) (i % 2)) → u ≡ plane_at s k 0 → v ≡ plane_at s k 1
    → Painted (set (set m (2 * k) u) (2 * k + 1) v) l 0 (2 * (k + 1)) (λ i. plane_at s (i / 2) (i % 2))
planes_turn s l m k u v p eu ev =
    let h : k ≡ 2 * k / 2 = omega arith in
    let z : 0 ≡ 2 * k % 2 = omega arith in
    let h' : k ≡ (2 * k + 1) / 2 = omega arith in
    let z' : 1 ≡ (2 * k + 1) % 2 = omega arith in
    painted-count
    (painted_turn (painted_turn p (2 * k) u (omega arith) (eu ∙ ap₂ (plane_at s) h z)) (2 * k + 1) v (omega arith) (ev ∙ ap₂ (plane_at s) h' z'))
    (2 * (k + 1))
    (omega arith)

-- the second pass's: the two bytes of a row, then the next tile
pub tile_turn : (rows l m : List ℕ) (t r u v : ℕ) → Painted m l (t * 16) (2 * r) (tile_byte rows t)
    → u ≡ get_or rows (t / 20 * 320 + t % 20 * 2 + r * 40) 0 → v ≡ get_or rows (t / 20 * 320 + t % 20 * 2 + r * 40 + 1) 0
    → Painted (set (set m (t * 16 + 2 * r) u) (t * 16 + 2 * r + 1) v) l (t * 16) (2 * (r + 1)) (tile_byte rows t)
unfolding tile_byte
tile_turn rows l m t r u v p eu ev =
    let h : t / 20 * 320 + t % 20 * 2 + r * 40 ≡ t / 20 * 320 + t % 20 * 2 + 2 * r / 2 * 40 + 2 * r % 2 = omega arith in
    let h' : t / 20 * 320 + t % 20 * 2 + r * 40 + 1 ≡ t / 20 * 320 + t % 20 * 2 + (2 * r + 1) / 2 * 40 + (2 * r + 1) % 2 = omega arith in
    painted-count
    (painted_turn (painted_turn p (t * 16 + 2 * r) u refl (eu ∙ ap (λ (i : ℕ). get_or rows i 0) h)) (t * 16 + 2 * r + 1) v (omega arith)
    (ev ∙ ap (λ (i : ℕ). get_or rows i 0) h'))
    (2 * (r + 1))
    (omega arith)

pub tiles_turn : (rows l m o : List ℕ) (t : ℕ) → Painted m l 0 (t * 16) (tiles_byte rows) → Painted o m (t * 16) 16 (tile_byte rows t)
    → Painted o l 0 ((t + 1) * 16) (tiles_byte rows)
unfolding tiles_byte
tiles_turn rows l m o t p q =
    painted-count
    (painted-run p q (omega arith) (λ i h. let e : t ≡ (t * 16 + i) / 16 = omega arith in let e' : i ≡ (t * 16 + i) % 16 = omega arith in ap₂ (tile_byte rows) e e'))
    ((t + 1) * 16)
    (omega arith)

-- where a plane byte stands in the rows
place : (q m r p : ℕ) → p < 2 → 2 * ((q * 320 + m * 2 + r * 40 + p) / 2) ≡ (q * 8 + r) * 40 + m * 2
place q m r p h = omega arith

place_plane : (q m r p : ℕ) → p < 2 → (q * 320 + m * 2 + r * 40 + p) % 2 ≡ p
place_plane q m r p h = omega arith

place_in : (t r p : ℕ) → t < 256 → r < 8 → p < 2 → t / 20 * 320 + t % 20 * 2 + r * 40 + p < 4160
place_in t r p ht hr hp = omega arith

-- both passes
pub page_is : (s l m rows : List ℕ) → Painted m l 0 page_bytes (tiles_byte rows) → rows ≡ planes_of s → length l ≡ page_bytes → m ≡ page_of s
unfolding page_of tiles_byte tile_byte planes_of plane_at
page_is s l m rows p e h =
    painted_all (painted_same p (λ k. plane_byte s (k / 16) (k % 16 / 2) (k % 2)) (λ k lt. ap (λ (r : List ℕ). tiles_byte r k) e ∙ byte k lt)) h
  where
    byte : (k : ℕ) → k < page_bytes → tiles_byte (planes_of s) k ≡ plane_byte s (k / 16) (k % 16 / 2) (k % 2)
    byte k lt =
        let t : ℕ = k / 16 in
        let r : ℕ = k % 16 / 2 in
        let q : ℕ = k % 16 % 2 in
        let i : ℕ = t / 20 * 320 + t % 20 * 2 + r * 40 + q in
        let ht : t < 256 = omega arith in
        let hr : r < 8 = omega arith in
        let hq : q < 2 = omega arith in
        let b : q ≡ k % 2 = omega arith in
        get_or-tab 4160 (λ j. plane_at s (j / 2) (j % 2)) i (place_in t r q ht hr hq)
        ∙ plane-at s t r (i % 2) (2 * (i / 2)) (place (t / 20) (t % 20) r q hq)
        ∙ ap (plane_byte s t r) (place_plane (t / 20) (t % 20) r q hq ∙ b)
