-- Packing and unpacking are inverse: cell x of row y is pair x % 4 of byte 5 * y + x / 4, and every byte has its four cells.
use mathlib.Core.Path.{◌≡◌, sym, ap, ◌∙◌}
use mathlib.Core.List.{List}
use Prim.Native.Nat.{ℕ, ◌+◌, ◌*◌, ◌/◌, ◌%◌, ◌<◌}
use native.Mathlib.Nat.{mod-eq_of_lt}
use native.Mathlib.Omega.{arith}
use lib.Bits.{bit_or, or_shifted}
use lib.ListN.{length, get_or}
use lib.Seq.{ext_get_or}
use Rattle.parts.specs.Parts.{map_bytes}
use Rattle.bits.specs.Pair.{pair_of, packed}
use Rattle.bits.proofs.Pairs.{pair_lt, pair_of-packed, packed_of_pairs}
use Rattle.bits.proofs.Tabs.{length-tab, get_or-tab}
use Rattle.attribute_map.specs.Map.{columns, rows, row_bytes, cell, Sized, four_at, pack, packed_cell, unpack}
use Rattle.attribute_map.proofs.Grids.{grid-sized, grid-cell, grid_is}

-- four pairs put together by shifts and OR
pub or-four : (a b c d : ℕ) → a < 4 → b < 4 → c < 4 → d < 4
    → bit_or (bit_or (bit_or (a * 64 % 256) (b * 16 % 256)) (c * 4 % 256)) d ≡ a * 64 + b * 16 + c * 4 + d
or-four a b c d ha hb hc hd =
    let la : a * 64 < 256 = omega arith in
    let lb : b * 16 < 256 = omega arith in
    let lc : c * 4 < 256 = omega arith in
    let s : a * 64 + b * 16 ≡ (a * 4 + b) * 16 = omega arith in
    let t : (a * 4 + b) * 16 + c * 4 ≡ (a * 16 + b * 4 + c) * 4 = omega arith in
    rw (mod-eq_of_lt la, mod-eq_of_lt lb, mod-eq_of_lt lc, or_shifted a 6 (b * 16) (omega arith), s, or_shifted (a * 4 + b) 4 (c * 4) (omega arith), t, or_shifted (a * 16 + b * 4 + c) 2 d hd)
    (omega arith)

pub length-pack : (m : List (List ℕ)) → length (pack m) ≡ map_bytes
unfolding pack
length-pack m = length-tab map_bytes (four_at m)

-- what stands at each place of a packed map: a byte
pub get_or-pack : (m : List (List ℕ)) (i : ℕ) → i < map_bytes → get_or (pack m) i 0 ≡ four_at m i
unfolding pack
get_or-pack m i h = get_or-tab map_bytes (four_at m) i h

packed_lt : (f : ℕ → ℕ) → ((j : ℕ) → f j < 4) → packed f < 256
unfolding packed
packed_lt f h = omega (arith, h 0, h 1, h 2, h 3)

pub pack-byte : (m : List (List ℕ)) (i : ℕ) → i < map_bytes → get_or (pack m) i 0 < 256
pack-byte m i h = rw (get_or-pack m i h) (packed_lt (λ j. cell m (4 * (i % row_bytes) + j) (i / row_bytes) % 4) (λ j. omega arith))

pub unpack-sized : (b : List ℕ) → Sized (unpack b)
unfolding unpack
unpack-sized b = grid-sized (packed_cell b)

pub unpack-cell : (b : List ℕ) (x y : ℕ) → x < columns → y < rows → cell (unpack b) x y ≡ packed_cell b x y
unfolding unpack
unpack-cell b x y hx hy = grid-cell (packed_cell b) x y hx hy

-- a map of palette numbers comes back as it was
pub unpack-pack : {m : List (List ℕ)} → Sized m → ((x y : ℕ) → x < columns → y < rows → cell m x y < 4) → unpack (pack m) ≡ m
unfolding unpack
unpack-pack {m} s h =
    sym
    (grid_is s (packed_cell (pack m))
    (λ x y hx hy.
    let i : ℕ = row_bytes * y + x / 4 in
    let f : ℕ → ℕ = λ j. cell m (4 * (i % row_bytes) + j) (i / row_bytes) % 4 in
    let hi : i < map_bytes = omega arith in
    let ex : 4 * (i % row_bytes) + x % 4 ≡ x = omega arith in
    let ey : i / row_bytes ≡ y = omega arith in
    sym
    (ap (λ (v : ℕ). pair_of v (x % 4)) (get_or-pack m i hi)
    ∙ pair_of-packed f (λ j. omega arith) (x % 4) (omega arith)
    ∙ (λ t. cell m (ex t) (ey t) % 4)
    ∙ mod-eq_of_lt (h x y hx hy))))

-- a pair of a packed byte, through the map and back
cell_pair : (b : List ℕ) (i j : ℕ) → i < map_bytes → j < 4 → cell (unpack b) (4 * (i % row_bytes) + j) (i / row_bytes) % 4 ≡ pair_of (get_or b i 0) j
cell_pair b i j hi hj =
    let ei : row_bytes * (i / row_bytes) + (4 * (i % row_bytes) + j) / 4 ≡ i = omega arith in
    let ej : (4 * (i % row_bytes) + j) % 4 ≡ j = omega arith in
    ap (λ (v : ℕ). v % 4) (unpack-cell b (4 * (i % row_bytes) + j) (i / row_bytes) (omega arith) (omega arith))
    ∙ mod-eq_of_lt (pair_lt (get_or b (row_bytes * (i / row_bytes) + (4 * (i % row_bytes) + j) / 4) 0) ((4 * (i % row_bytes) + j) % 4))
    ∙ (λ t. pair_of (get_or b (ei t) 0) (ej t))

four_pairs : (b : List ℕ) (i : ℕ) → i < map_bytes → four_at (unpack b) i ≡ packed (pair_of (get_or b i 0))
unfolding packed
four_pairs b i h = rw (cell_pair b i 0 h (omega arith), cell_pair b i 1 h (omega arith), cell_pair b i 2 h (omega arith), cell_pair b i 3 h (omega arith))

-- and ninety bytes come back as they were
pub pack-unpack : (b : List ℕ) → length b ≡ map_bytes → ((i : ℕ) → i < map_bytes → get_or b i 0 < 256) → pack (unpack b) ≡ b
pack-unpack b e h =
    ext_get_or 0 (pack (unpack b)) b (length-pack (unpack b) ∙ sym e)
    (λ i hi.
    let l : i < map_bytes = rw (sym (length-pack (unpack b))) hi in
    get_or-pack (unpack b) i l ∙ four_pairs b i l ∙ packed_of_pairs (get_or b i 0) (h i l))
