-- Serves the loop over the runs of a row; nobody need believe it. Numbers of four bits side by side in one word, the first lowest: the
-- eight colour indices of a tile's row at once. What an index is stands in `border`; that the lanes hold it is proofs/Spreads, `all_lanes`.
use Rattle.std.specs.Prelude.{ℕ, zero, suc, ◌+◌, ◌-◌, ◌*◌, ◌/◌, ◌%◌, ◌^◌, Bool, cond, ltb}
use Rattle.bits.specs.Bit.{bit_at}
use Rattle.border.specs.Border.{flipped}

-- f 0 + 16 f 1 + 256 f 2 + ..: n of them
unfoldable pub lanes : ℕ → (ℕ → ℕ) → ℕ
lanes zero f = 0
lanes (suc n) f = f 0 + 16 * lanes n (λ i. f (suc i))

-- what stands in lane j
unfoldable pub lane : ℕ → ℕ → ℕ
lane l j = l / 2 ^ (4 * j) % 16

-- a plane byte's eight bits, a lane each: the leftmost pixel, bit 7, first, or last where the tile is flipped
unfoldable pub plane_lanes : Bool → ℕ → ℕ
plane_lanes right b = lanes 8 (λ j. bit_at (7 - flipped right j) b)

-- the table of them: 256 from the left, then 256 from the right
unfoldable pub spread_of : ℕ → ℕ
spread_of k = lanes 8 (λ j. bit_at (cond (ltb k 256) (7 - j) j) k)
