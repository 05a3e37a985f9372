-- The table has each plane byte's bits as lanes, tried at all 256 bytes from either side; four planes of them, weighed 1, 2, 4 and 8, are the indices.
-- Assumes nothing.
use Prim.Native.Nat.{ℕ, ◌+◌, ◌-◌, ◌*◌, ◌/◌, ◌%◌, ◌<◌, ◌≤◌}
use native.Mathlib.Omega.{arith}
use mathlib.Core.Path.{◌≡◌, sym, ◌∙◌, ap, subst}
use mathlib.Core.Bool.{Bool, true, false, cond}
use mathlib.Core.List.{List}
use lib.Dec.{ltb}
use lib.ListN.{length, get_or}
use lib.Bits.{bit_and, bit_or}
use Rattle.bits.specs.Bit.{bit_at}
use Rattle.bits.specs.Tab.{tab}
use Rattle.bits.proofs.Every.{same-below}
use Rattle.bits.proofs.Tabs.{get_or-tab, length-tab}
use Rattle.bits.proofs.Planes.{bit-lt}
use Rattle.colour.specs.Entry.{tile_of, flip_x, flip_y}
use Rattle.border.specs.Tile.{tile_part, index_in}
use Rattle.border.specs.Border.{draws, flipped, index_of}
use Rattle.picture_lanes.specs.Lanes.{lanes, plane_lanes, spread_of}
use Rattle.picture_lanes.proofs.Laws.{lanes-bits, lanes-same, lanes-twice}

spread-bound : (k : ℕ) → spread_of k ≤ 286331153
unfolding spread_of lanes
spread-bound k = lanes-bits 8 (λ j. bit_at (cond (ltb k 256) (7 - j) j) k) (λ i. bit-lt (cond (ltb k 256) (7 - i) i) k)

pub spread-long : (l : List ℕ) → l ≡ tab 512 spread_of → length l ≡ 512
spread-long l e = ap length e ∙ length-tab 512 spread_of

-- from the left, the leftmost pixel is bit 7; from the right, bit 0
spread-left : (b : ℕ) → b < 256 → spread_of b ≡ plane_lanes false b
unfolding spread_of plane_lanes lanes bit_at flipped
spread-left b h = same-below 256 spread_of (plane_lanes false) tt b h

spread_right : (b : ℕ) → b < 256 → spread_of (256 + b) ≡ plane_lanes true b
unfolding spread_of plane_lanes lanes bit_at flipped
spread_right b h = same-below 256 (λ k. spread_of (256 + k)) (plane_lanes true) tt b h

entry : (l : List ℕ) (k v : ℕ) → l ≡ tab 512 spread_of → k < 512 → spread_of k ≡ v → (get_or l k 0 ≡ v) × (get_or l k 0 ≤ 286331153)
entry l k v e h g =
    let q : get_or l k 0 ≡ spread_of k = ap (λ (m : List ℕ). get_or m k 0) e ∙ get_or-tab 512 spread_of k h in
    (q ∙ g, subst (λ (n : ℕ). n ≤ 286331153) (sym q) (spread-bound k))

pub read_left : (l : List ℕ) (b k : ℕ) → l ≡ tab 512 spread_of → k ≡ b → k < 256 → (get_or l k 0 ≡ plane_lanes false b) × (get_or l k 0 ≤ 286331153)
read_left l b k e q h = entry l k (plane_lanes false b) e (omega arith) (spread-left k h ∙ ap (plane_lanes false) q)

pub read_right : (l : List ℕ) (b k : ℕ) → l ≡ tab 512 spread_of → k ≡ b → k < 256 → (get_or l (256 + k) 0 ≡ plane_lanes true b) × (get_or l (256 + k) 0 ≤ 286331153)
read_right l b k e q h = entry l (256 + k) (plane_lanes true b) e (omega arith) (spread_right k h ∙ ap (plane_lanes true) q)

weigh : (a b c d : ℕ) → a + (b + (c + d * 2) * 2) * 2 ≡ a + b * 2 + c * 4 + d * 8
weigh a b c d = omega arith

-- the four planes of a row
pub four_planes : (t : List ℕ) (row : ℕ) (right : Bool) (a b c d : ℕ)
    → a ≡ plane_lanes right (get_or t (row * 2) 0) → b ≡ plane_lanes right (get_or t (row * 2 + 1) 0)
    → c ≡ plane_lanes right (get_or t (row * 2 + 16) 0) → d ≡ plane_lanes right (get_or t (row * 2 + 17) 0)
    → a + (b + (c + d * 2) * 2) * 2 ≡ lanes 8 (λ j. index_in t row (flipped right j))
unfolding plane_lanes index_in
four_planes t row right a b c d ea eb ec ed =
    let p : ℕ → ℕ → ℕ = λ k j. bit_at (7 - flipped right j) (get_or t (row * 2 + k) 0) in
    let p0 : ℕ → ℕ = λ j. bit_at (7 - flipped right j) (get_or t (row * 2) 0) in
    (λ i. ea i + (eb i + (ec i + ed i * 2) * 2) * 2)
    ∙ ap (λ (n : ℕ). lanes 8 p0 + (lanes 8 (p 1) + n * 2) * 2) (lanes-twice 8 (p 16) (p 17))
    ∙ ap (λ (n : ℕ). lanes 8 p0 + n * 2) (lanes-twice 8 (p 1) (λ j. p 16 j + p 17 j * 2))
    ∙ lanes-twice 8 p0 (λ j. p 1 j + (p 16 j + p 17 j * 2) * 2)
    ∙ lanes-same 8 (λ j. p0 j + (p 1 j + (p 16 j + p 17 j * 2) * 2) * 2) (λ j. index_in t row (flipped right j)) (λ j h. weigh (p0 j) (p 1 j) (p 16 j) (p 17 j))

-- the tile's row, flipped as the word says; and no lane where nothing is drawn
pub all_lanes : (tiles t : List ℕ) (w y n row r : ℕ) (right : Bool) → draws w ≡ true → n ≡ tile_of w → t ≡ tile_part tiles n → row ≡ flipped (flip_y w) y
    → right ≡ flip_x w → r ≡ lanes 8 (λ j. index_in t row (flipped right j)) → r ≡ lanes 8 (λ x. index_of tiles w x y)
unfolding index_of
all_lanes tiles t w y n row r right d en et er ex e =
    e ∙ (λ i. lanes 8 (λ j. index_in ((et ∙ ap (tile_part tiles) en) i) (er i) (flipped (ex i) j)))
    ∙ (λ i. lanes 8 (λ j. cond (sym d i) (index_in (tile_part tiles (tile_of w)) (flipped (flip_y w) y) (flipped (flip_x w) j)) 0))

pub no-lanes : (tiles : List ℕ) (w y : ℕ) → draws w ≡ false → 0 ≡ lanes 8 (λ x. index_of tiles w x y)
unfolding index_of lanes
no-lanes tiles w y e = λ i. lanes 8 (λ j. cond (sym e i) (index_in (tile_part tiles (tile_of w)) (flipped (flip_y w) y) (flipped (flip_x w) j)) 0)

-- the two ways of spreading a byte by shifts and masks
abbrev pub left_of : ℕ → ℕ
left_of b =
    let x : ℕ = bit_and (bit_or (b / 16) (b * 65536 % 4294967296)) 983055 in
    let z : ℕ = bit_and (bit_or (x / 4) (x * 256 % 4294967296)) 50529027 in
    bit_and (bit_or (z / 2) (z * 16 % 4294967296)) 286331153

abbrev pub right_of : ℕ → ℕ
right_of b =
    let x : ℕ = bit_and (bit_or b (b * 4096 % 4294967296)) 983055 in
    let z : ℕ = bit_and (bit_or x (x * 64 % 4294967296)) 50529027 in
    bit_and (bit_or z (z * 8 % 4294967296)) 286331153

pub left_is : (b : ℕ) → b < 256 → left_of b ≡ spread_of b
unfolding spread_of lanes bit_at
left_is b h = same-below 256 left_of spread_of tt b h

pub right_is : (b : ℕ) → b < 256 → right_of b ≡ spread_of (256 + b)
unfolding spread_of lanes bit_at
right_is b h = same-below 256 right_of (λ k. spread_of (256 + k)) tt b h
