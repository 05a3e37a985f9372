-- The eight shades that two packed bytes hold, as one word: each byte keeps its four pairs, the first byte above the second.
-- Assumes nothing.
use Prim.Native.Nat.{ℕ, ◌+◌, ◌-◌, ◌*◌, ◌/◌, ◌%◌, ◌^◌, ◌<◌}
use native.Mathlib.Omega.{arith}
use mathlib.Core.Path.{◌≡◌, sym, ◌∙◌, ap}
use mathlib.Core.List.{List}
use lib.ListN.{get_or}
use borrow.Author.Count.{below_none, below_more}
use Rattle.bits.specs.Word.{word}
use Rattle.bits.specs.Pair.{pair_of}
use Rattle.screen.specs.Packed.{pair_at}
use Rattle.picture_runs.specs.Runs.{lane_shade, Packs}

-- the k-th number, in byte i at place m
place : (b : List ℕ) (k i m : ℕ) → k / 4 ≡ i → k % 4 ≡ m → pair_of (get_or b i 0) m ≡ pair_at b k
unfolding pair_at
place b k i m e f = λ t. pair_of (get_or b (sym e t) 0) (sym f t)

-- each of the eight
module _ (low high : ℕ) (h : low < 256) where
  high-pair : (j : ℕ) → j < 4 → lane_shade (word low high) j ≡ pair_of high j
  unfolding lane_shade word pair_of
  high-pair = let P : ℕ → Type 0 = λ j. (low + high * 256) / 2 ^ (14 - 2 * j) % 4 ≡ high / 4 ^ (3 - j) % 4 in
      below_more P 3 (below_more P 2 (below_more P 1 (below_more P 0 (below_none P) (omega arith)) (omega arith)) (omega arith)) (omega arith)

  low-pair : (j : ℕ) → j < 4 → lane_shade (word low high) (4 + j) ≡ pair_of low j
  unfolding lane_shade word pair_of
  low-pair = let P : ℕ → Type 0 = λ j. (low + high * 256) / 2 ^ (14 - 2 * (4 + j)) % 4 ≡ low / 4 ^ (3 - j) % 4 in
      below_more P 3 (below_more P 2 (below_more P 1 (below_more P 0 (below_none P) (omega arith)) (omega arith)) (omega arith)) (omega arith)

pub packs : (b : List ℕ) (k at s : ℕ) → k ≡ at * 4 → get_or b (at + 1) 0 < 256 → s ≡ word (get_or b (at + 1) 0) (get_or b at 0) → Packs s b k
packs b k at s q h e =
    let low : ℕ = get_or b (at + 1) 0 in
    let high : ℕ = get_or b at 0 in
    let P : ℕ → Type 0 = λ j. lane_shade (word low high) j ≡ pair_at b (k + j) in
    let first : (j : ℕ) → j < 4 → (k + j) / 4 ≡ at → (k + j) % 4 ≡ j → P j = λ j lt e f. high-pair low high h j lt ∙ place b (k + j) at j e f in
    let second : (j : ℕ) → j < 4 → (k + (4 + j)) / 4 ≡ at + 1 → (k + (4 + j)) % 4 ≡ j → P (4 + j) =
    λ j lt e f. low-pair low high h j lt ∙ place b (k + (4 + j)) (at + 1) j e f in
    let each : (j : ℕ) → j < 8 → P j =
    below_more P 7 (below_more P 6 (below_more P 5 (below_more P 4 (below_more P 3 (below_more P 2 (below_more P 1 (below_more P 0 (below_none P)
    (first 0 (omega arith) (omega arith) (omega arith)))
    (first 1 (omega arith) (omega arith) (omega arith)))
    (first 2 (omega arith) (omega arith) (omega arith)))
    (first 3 (omega arith) (omega arith) (omega arith)))
    (second 0 (omega arith) (omega arith) (omega arith)))
    (second 1 (omega arith) (omega arith) (omega arith)))
    (second 2 (omega arith) (omega arith) (omega arith)))
    (second 3 (omega arith) (omega arith) (omega arith)) in
    record { is = λ j lt. ap (λ (n : ℕ). lane_shade n j) e ∙ each j lt }
