-- What the loops over cells do in a turn, and that packing and unpacking are inverse: a byte is told by its four pairs.
use mathlib.Core.Path.{◌≡◌, refl, sym, ap, ◌∙◌}
use mathlib.Core.Bool.{true, ◌&&◌}
use mathlib.Core.List.{List, [], ◌∷◌}
use Prim.Native.Nat.{ℕ, zero, suc, ◌+◌, ◌*◌, ◌/◌, ◌%◌, ◌^◌, ◌≤◌, ◌<◌, zero-le, suc-le-suc}
use native.Mathlib.Nat.{mod-eq_of_lt}
use native.Mathlib.Numerals.{add-one}
use native.Mathlib.Omega.{arith}
use borrow.Author.Tests.{leb-true, ne_eqb, le-leb, lt-leb}
use lib.Bits.{bit_or}
use lib.Dec.{eqb, leb}
use lib.ListN.{length, get_or, drop, drop_of_length-le}
use lib.Seq.{drop-cons, ext_get_or}
use Rattle.bits.specs.Pair.{pair_of, packed}
use Rattle.bits.proofs.Pairs.{pair_lt, pair_of-packed, packed_of_pairs}
use Rattle.bits.proofs.Tabs.{length-tab, get_or-tab}
use Rattle.bits.proofs.Tests.{and_left, and_right, and_assoc, and_yes}
use Rattle.bits.proofs.Zeros.{or-zero}
use Rattle.state_cells.specs.Cells.{pack_cells, unpack_cells, palette_numbers, low_pairs}

-- ---- a turn of the loop that looks at all of them, and its end

number-bits : (x : ℕ) → leb x 3 ≡ eqb (x / 2 ^ 2) 0
number-bits zero = refl
number-bits (suc zero) = refl
number-bits (suc (suc zero)) = refl
number-bits (suc (suc (suc zero))) = refl
number-bits (suc (suc (suc (suc x)))) =
    let n : ℕ = suc (suc (suc (suc x))) in
    let h : 3 < n = omega arith in
    lt-leb n 3 h ∙ sym (ne_eqb (n / 2 ^ 2) 0 (λ z. omega arith))

pub numbers_turn : (s : List ℕ) (i all : ℕ) → i < length s
    → (eqb all 0 && palette_numbers (drop i s)) ≡ (eqb (bit_or all (get_or s i 0 / 2 ^ 2)) 0 && palette_numbers (drop (i + 1) s))
unfolding palette_numbers
numbers_turn s i all h =
    rw (add-one, drop-cons s i 0 h, or-zero, number-bits)
    (sym (and_assoc (eqb all 0) (eqb (get_or s i 0 / 2 ^ 2) 0) (palette_numbers (drop (suc i) s))))

pub numbers_end : (s : List ℕ) (i all : ℕ) → length s ≤ i → (eqb all 0 && palette_numbers (drop i s)) ≡ eqb all 0
unfolding palette_numbers
numbers_end s i all h = rw (drop_of_length-le s {i = i} h) (and_yes (eqb all 0))

-- pair j of byte i is number 4 * i + j
pub pair-at : (l : List ℕ) (i j : ℕ) → j < 4 → pair_of (get_or l i 0) j ≡ pair_of (get_or l ((4 * i + j) / 4) 0) ((4 * i + j) % 4)
pair-at l i j h =
    let e : i ≡ (4 * i + j) / 4 = omega arith in
    let f : j ≡ (4 * i + j) % 4 = omega arith in
    λ t. pair_of (get_or l (e t) 0) (f t)

-- ---- lengths

pub length-pack_cells : (n : ℕ) (l : List ℕ) → length (pack_cells n l) ≡ n
unfolding pack_cells
length-pack_cells n l = length-tab n (λ i. packed (λ j. get_or l (4 * i + j) 0 % 4))

pub length-unpack_cells : (n : ℕ) (b : List ℕ) → length (unpack_cells n b) ≡ 4 * n
unfolding unpack_cells
length-unpack_cells n b = length-tab (4 * n) (λ k. pair_of (get_or b (k / 4) 0) (k % 4))

length-low : (l : List ℕ) → length (low_pairs l) ≡ length l
unfolding low_pairs
length-low [] = refl
length-low (x ∷ xs) = ap suc (length-low xs)

-- ---- what stands at each place

get_or-pack : (n : ℕ) (l : List ℕ) (i : ℕ) → i < n → get_or (pack_cells n l) i 0 ≡ packed (λ j. get_or l (4 * i + j) 0 % 4)
unfolding pack_cells
get_or-pack n l i h = get_or-tab n (λ k. packed (λ j. get_or l (4 * k + j) 0 % 4)) i h

get_or-unpack : (n : ℕ) (b : List ℕ) (k : ℕ) → k < 4 * n → get_or (unpack_cells n b) k 0 ≡ pair_of (get_or b (k / 4) 0) (k % 4)
unfolding unpack_cells
get_or-unpack n b k h = get_or-tab (4 * n) (λ i. pair_of (get_or b (i / 4) 0) (i % 4)) k h

get_or-low : (l : List ℕ) (k : ℕ) → get_or (low_pairs l) k 0 ≡ get_or l k 0 % 4
unfolding low_pairs
get_or-low [] k = refl
get_or-low (x ∷ xs) zero = refl
get_or-low (x ∷ xs) (suc k) = get_or-low xs k

-- ---- there and back

-- what is packed comes back as the low two bits of each
pub unpack-pack : (n : ℕ) (l : List ℕ) → length l ≡ 4 * n → unpack_cells n (pack_cells n l) ≡ low_pairs l
unpack-pack n l e =
    ext_get_or 0 (unpack_cells n (pack_cells n l)) (low_pairs l) (length-unpack_cells n (pack_cells n l) ∙ sym (length-low l ∙ e))
    (λ k h.
    let lt : k < 4 * n = rw (sym (length-unpack_cells n (pack_cells n l))) h in
    let q : k / 4 < n = omega arith in
    let whole : 4 * (k / 4) + k % 4 ≡ k = omega arith in
    let f : ℕ → ℕ = λ j. get_or l (4 * (k / 4) + j) 0 % 4 in
    get_or-unpack n (pack_cells n l) k lt
    ∙ ap (λ (v : ℕ). pair_of v (k % 4)) (get_or-pack n l (k / 4) q)
    ∙ pair_of-packed f (λ j. omega arith) (k % 4) (omega arith)
    ∙ ap (λ (i : ℕ). get_or l i 0 % 4) whole
    ∙ sym (get_or-low l k))

-- palette numbers have no more bits
pub low_numbers : (l : List ℕ) → palette_numbers l ≡ true → low_pairs l ≡ l
unfolding palette_numbers low_pairs
low_numbers [] e = refl
low_numbers (x ∷ xs) e =
    let h : x ≤ 3 = leb-true x 3 (and_left (leb x 3) (palette_numbers xs) e) in
    let lt : x < 4 = omega arith in
    λ t. mod-eq_of_lt lt t ∷ low_numbers xs (and_right (leb x 3) (palette_numbers xs) e) t

-- packed bytes come back as they were
pub pack-unpack : (n : ℕ) (b : List ℕ) → length b ≡ n → ((i : ℕ) → i < n → get_or b i 0 < 256) → pack_cells n (unpack_cells n b) ≡ b
pack-unpack n b e h =
    ext_get_or 0 (pack_cells n (unpack_cells n b)) b (length-pack_cells n (unpack_cells n b) ∙ sym e)
    (λ i hi.
    let lt : i < n = rw (sym (length-pack_cells n (unpack_cells n b))) hi in
    get_or-pack n (unpack_cells n b) i lt ∙ four-again i lt ∙ packed_of_pairs (get_or b i 0) (h i lt))
  where
    back : (i j : ℕ) → i < n → j < 4 → get_or (unpack_cells n b) (4 * i + j) 0 % 4 ≡ pair_of (get_or b i 0) j
    back i j hi hj =
        ap (λ (v : ℕ). v % 4) (get_or-unpack n b (4 * i + j) (omega arith) ∙ sym (pair-at b i j hj)) ∙ mod-eq_of_lt (pair_lt (get_or b i 0) j)

    four-again : (i : ℕ) → i < n → packed (λ j. get_or (unpack_cells n b) (4 * i + j) 0 % 4) ≡ packed (pair_of (get_or b i 0))
    four-again i hi =
        unfold packed in
        rw (back i 0 hi (omega arith), back i 1 hi (omega arith), back i 2 hi (omega arith), back i 3 hi (omega arith))

-- what a block has unpacked is palette numbers
numbers_all : (l : List ℕ) → ((k : ℕ) → k < length l → get_or l k 0 < 4) → palette_numbers l ≡ true
unfolding palette_numbers
numbers_all [] h = refl
numbers_all (x ∷ xs) h =
    let first : x < 4 = h 0 (suc-le-suc zero-le) in
    let few : x ≤ 3 = omega arith in
    rw (le-leb x 3 few) (numbers_all xs (λ k lt. h (suc k) (suc-le-suc lt)))

pub numbers_unpacked : (n : ℕ) (b : List ℕ) → palette_numbers (unpack_cells n b) ≡ true
numbers_unpacked n b =
    numbers_all (unpack_cells n b)
    (λ k h.
    let lt : k < 4 * n = rw (sym (length-unpack_cells n b)) h in
    rw (get_or-unpack n b k lt) (pair_lt (get_or b (k / 4) 0) (k % 4)))
