-- Data pulses with their releases in one word are lanes of sixteen bits, the pulse's byte low. A mask acts on each lane alone, and no sum
-- of two lane bits carries into the next lane, so one test on the word is the test on each pulse. The code has four lanes; the laws take
-- one after the other.
use mathlib.Core.Path.{◌≡◌, refl, sym, ap, ◌∙◌, subst, subst⁻¹}
use mathlib.Core.List.{List}
use Prim.Native.Nat.{ℕ, zero, suc, ◌+◌, ◌*◌, ◌/◌, ◌%◌, ◌^◌, ◌<◌, ◌≤◌}
use native.Mathlib.Nat.{add-zero}
use native.Mathlib.Omega.{arith}
use lib.Dec.{lit<}
use lib.ListN.{length, get_or, drop}
use lib.Bits.{bit_and, bit_or, and_mask, and_high, and_block, or_shifted_r}
use lib.Pow.{shl_exact}
use Rattle.bits_eight.specs.Eight.{eight_at}
use Rattle.bits.proofs.Folds.{Folds, folded}
use Rattle.receiver_gather.specs.Words.{Feeds}
use Rattle.receiver_gather.proofs.Feeds.{feeds_none, feeds-one, feeds-then}
use Rattle.receiver_gather.proofs.Gathers.{Gathering, stack}

-- the same number in each of n lanes
unfoldable each : ℕ → ℕ → ℕ
each zero m = 0
each (suc n) m = each n m * 65536 + m

-- the bit that stands lowest in a lane
lane_bit : (x q m low : ℕ) → x ≡ q * 65536 + low → low < 65536 → bit_and x (m * 65536 + 1) ≡ bit_and q m * 65536 + low % 2
lane_bit x q m low e h =
    ap (λ (y : ℕ). bit_and y (m * 65536 + 1)) e ∙ and_block 16 q m low 1 h (lit< tt) ∙ ap (λ (y : ℕ). bit_and q m * 65536 + y) (and_mask low 1)

-- a lane of the pulse a and its release c, with x in the lanes above it, under a mask that has m there
module _ (x a c m : ℕ) (ha : a < 256) (hc : c < 256) where
  bit-4 : bit_and ((x * 65536 + (a + c * 256)) / 16) (m * 65536 + 1) ≡ bit_and (x / 16) m * 65536 + a / 16 % 2
  bit-4 = lane_bit ((x * 65536 + (a + c * 256)) / 16) (x / 16) m (x % 16 * 4096 + (a + c * 256) / 16) (omega arith) (omega arith) ∙ omega arith

  bit-5 : bit_and ((x * 65536 + (a + c * 256)) / 32) (m * 65536 + 1) ≡ bit_and (x / 32) m * 65536 + a / 32 % 2
  bit-5 = lane_bit ((x * 65536 + (a + c * 256)) / 32) (x / 32) m (x % 32 * 2048 + (a + c * 256) / 32) (omega arith) (omega arith) ∙ omega arith

  high_byte_masked : bit_and (x * 65536 + (a + c * 256)) (m * 65536 + 0x3000) ≡ bit_and x m * 65536 + c / 16 % 4 * 4096
  high_byte_masked =
      let e : bit_and (a + c * 256) 0x3000 ≡ c / 16 % 4 * 4096 = and_high (a + c * 256) 2 12 ∙ omega arith in
      and_block 16 x m (a + c * 256) 0x3000 (omega arith) (lit< tt) ∙ ap (λ (y : ℕ). bit_and x m * 65536 + y) e

-- two numbers by their last lanes
lanes_equal : (q p r s : ℕ) → r < 65536 → s < 65536 → q * 65536 + r ≡ p * 65536 + s → (q ≡ p) × (r ≡ s)
lanes_equal q p r s h k e = (omega arith, omega arith)

-- ---- n lanes of a list of bytes, from place i + k on

module _ (ws : List ℕ) (i : ℕ) where
  abbrev bit : ℕ → ℕ
  bit k = get_or ws (i + k) 0 / 16 % 2

  unfoldable lanes : ℕ → ℕ → ℕ
  lanes zero k = 0
  lanes (suc n) k = lanes n (suc (suc k)) * 65536 + (get_or ws (i + k) 0 + get_or ws (i + suc k) 0 * 256)

  -- the data bits: a lane for each, as a number, and how many are ones
  unfoldable bits : ℕ → ℕ → ℕ
  bits zero k = 0
  bits (suc n) k = bits n (suc (suc k)) * 65536 + bit k

  unfoldable value : ℕ → ℕ → ℕ
  value zero k = 0
  value (suc n) k = bit k + value n (suc (suc k)) * 2

  unfoldable ones : ℕ → ℕ → ℕ
  ones zero k = 0
  ones (suc n) k = bit k + ones n (suc (suc k))

  -- 65536 is 2 modulo 32767, and 1 modulo 65535
  fold-value : (n k : ℕ) → Folds 32767 (bits n k) (value n k)
  unfolding bits value
  fold-value zero k = record { times = 0; is = refl }
  fold-value (suc n) k =
      let f = fold-value n (suc (suc k)) in
      record { times = value n (suc (suc k)) * 2 + f.times * 65536; is = omega (arith, f.is) }

  fold-ones : (n k : ℕ) → Folds 65535 (bits n k) (ones n k)
  unfolding bits ones
  fold-ones zero k = record { times = 0; is = refl }
  fold-ones (suc n) k =
      let f = fold-ones n (suc (suc k)) in
      record { times = ones n (suc (suc k)) + f.times * 65536; is = omega (arith, f.is) }

  eight-lanes : eight_at ws i ≡ lanes 4 0
  unfolding eight_at lanes
  eight-lanes = let e : get_or ws (i + 0) 0 ≡ get_or ws i 0 = ap (λ (j : ℕ). get_or ws j 0) (add-zero i) in omega arith

  module _ (bytes : (j : ℕ) → get_or ws j 0 < 256) where
    bits_of : (n k : ℕ) → bit_and (lanes n k / 16) (each n 1) ≡ bits n k
    unfolding lanes each bits
    bits_of zero k = refl
    bits_of (suc n) k =
        bit-4 (lanes n (suc (suc k))) (get_or ws (i + k) 0) (get_or ws (i + suc k) 0) (each n 1) (bytes (i + k)) (bytes (i + suc k))
        ∙ ap (λ (y : ℕ). y * 65536 + bit k) (bits_of n (suc (suc k)))

    feeds-lanes : (n k : ℕ) → i + k + 2 * n ≤ length ws → bit_and (lanes n k) (each n 0x3000) ≡ each n 0x3000
        → bit_and (lanes n k / 16) (each n 1) + bit_and (lanes n k / 32) (each n 1) ≡ each n 1
        → Feeds (drop (i + k) ws) (drop (i + k + 2 * n) ws) n (value n k) (ones n k)
    unfolding lanes each value ones
    feeds-lanes zero k h hm hs =
        let e : i + k ≡ i + k + 2 * 0 = omega arith in
        subst (λ (j : ℕ). Feeds (drop (i + k) ws) (drop j ws) 0 0 0) e (feeds_none (drop (i + k) ws))
    feeds-lanes (suc n) k h hm hs =
        let a : ℕ = get_or ws (i + k) 0 in
        let c : ℕ = get_or ws (i + suc k) 0 in
        let x : ℕ = lanes n (suc (suc k)) in
        let la : a < 256 = bytes (i + k) in
        let lc : c < 256 = bytes (i + suc k) in
        let high = lanes_equal _ _ _ _ (omega arith) (lit< tt) (sym (high_byte_masked x a c (each n 0x3000) la lc) ∙ hm) in
        let g = bit-4 x a c (each n 1) la lc in
        let w = bit-5 x a c (each n 1) la lc in
        let low = lanes_equal (bit_and (x / 16) (each n 1) + bit_and (x / 32) (each n 1)) (each n 1) (a / 16 % 2 + a / 32 % 2) 1 (omega arith) (lit< tt)
        (omega (arith, g, w, hs)) in
        let end : i + suc (suc k) + 2 * n ≡ i + k + 2 * suc n = omega arith in
        let more : 1 + n ≡ suc n = omega arith in
        let rest = feeds-lanes n (suc (suc k)) (omega arith) high.0 low.0 in
        let one = feeds-one ws (i + k) (i + suc k) (i + suc (suc k)) (omega arith) (omega arith) (omega arith) low.1 (omega (arith, high.1)) in
        subst (λ (j : ℕ). Feeds (drop (i + k) ws) (drop j ws) (suc n) (value (suc n) k) (ones (suc n) k)) end
        (subst (λ (m : ℕ). Feeds (drop (i + k) ws) (drop (i + suc (suc k) + 2 * n) ws) m (value (suc n) k) (ones (suc n) k)) more
        (feeds-then (drop (i + k) ws) (drop (i + suc (suc k)) ws) (drop (i + suc (suc k) + 2 * n) ws) 1 _ _ n _ _ one rest))

-- ---- eight bytes as one word

module _ (ws : List ℕ) (i x : ℕ) (bytes : (j : ℕ) → get_or ws j 0 < 256) (ex : x ≡ eight_at ws i) where
  -- the data bits, whatever the pulses are
  abbrev g : ℕ
  g = bit_and (x / 16) 0x0001000100010001

  g-is : g ≡ bits ws i 4 0
  unfolding each
  g-is = ap (λ (y : ℕ). bit_and (y / 16) 0x0001000100010001) (ex ∙ eight-lanes ws i) ∙ bits_of ws i bytes 4 0

  small : (value ws i 4 0 < 16) × (ones ws i 4 0 ≤ 4)
  unfolding value ones
  small = (omega arith, omega arith)

  told : (g % 32767 ≡ value ws i 4 0) × (g % 65535 ≡ ones ws i 4 0)
  told =
      let s = small in (
        ap (λ (y : ℕ). y % 32767) g-is ∙ folded 32767 _ _ (fold-value ws i 4 0) (omega arith),
        ap (λ (y : ℕ). y % 65535) g-is ∙ folded 65535 _ _ (fold-ones ws i 4 0) (omega arith),
      )

  -- four bits at most, and as many ones
  pub parts : (g % 32767 < 16) × (g % 65535 ≤ 4)
  parts = rw (told.0, told.1) small

  feeds-four : i + 8 ≤ length ws → bit_and x 0x3000300030003000 ≡ 0x3000300030003000 → g + bit_and (x / 32) 0x0001000100010001 ≡ 0x0001000100010001
      → Feeds (drop i ws) (drop (i + 8) ws) 4 (g % 32767) (g % 65535)
  unfolding each
  feeds-four h hm hs =
      let e : x ≡ lanes ws i 4 0 = ex ∙ eight-lanes ws i in
      let f = feeds-lanes ws i bytes 4 0 (omega arith) (rw e at hm) (rw e at hs) in
      rw (told.0, told.1) (subst (λ (j : ℕ). Feeds (drop j ws) (drop (j + 8) ws) 4 (value ws i 4 0) (ones ws i 4 0)) (add-zero i) f)

-- ---- a turn of the loop of `gather`

or-part : (w n t : ℕ) → 4 + n ≤ 64 → t < 16 → w < 2 ^ n → bit_or w ((t * 2 ^ n) % 18446744073709551616) ≡ w + t * 2 ^ n
or-part w n t h k b = ap (bit_or w) (shl_exact 4 n 64 k h) ∙ or_shifted_r t n w b ∙ omega arith

module _ (ws : List ℕ) (from word n ones i x : ℕ) (G : Gathering ws from word n ones i) (hn : n < 64) (bytes : (j : ℕ) → get_or ws j 0 < 256)
    (ex : x ≡ eight_at ws i) (hm : bit_and x 0x3000300030003000 ≡ 0x3000300030003000)
    (hs : bit_and (x / 16) 0x0001000100010001 + bit_and (x / 32) 0x0001000100010001 ≡ 0x0001000100010001) where
  pub gathers-four : Gathering ws from (bit_or word ((bit_and (x / 16) 0x0001000100010001 % 32767 * 2 ^ n) % 18446744073709551616)) (n + 4)
      (ones + bit_and (x / 16) 0x0001000100010001 % 65535) (i + 8)
  gathers-four =
      let t : ℕ = bit_and (x / 16) 0x0001000100010001 % 32767 in
      let o : ℕ = bit_and (x / 16) 0x0001000100010001 % 65535 in
      let p = parts ws i x bytes ex in
      let top : 4 + n ≤ 64 = omega (arith, G.fours) in
      subst⁻¹ (λ (v : ℕ). Gathering ws from v (n + 4) (ones + o) (i + 8)) (or-part word n t top p.0 G.small) (record {
        place = omega (arith, G.place);
        room = G.room;
        few = omega arith;
        fours = omega (arith, G.fours);
        small = stack word t n 4 G.small p.0;
        ones_few = omega (arith, G.ones_few, p.1);
        feeds =
            feeds-then (drop from ws) (drop i ws) (drop (i + 8) ws) n word ones 4 t o G.feeds
            (feeds-four ws i x bytes ex (omega (arith, G.place, G.room, G.fours)) hm hs);
      })
