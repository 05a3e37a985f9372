-- The two lines that a write sets, and the joypad index. Next door: what the lines mean to the receiver (`Receive`).
-- RULES 3.1 and 3.2; Pan Docs, Command packet transfers.
use Rattle.std.specs.Prelude.{ℕ, ◌+◌, Bool, true, false, not, ◌&&◌, cond}
use Rattle.std.specs.Int.Bits.{bit_and}
use Rattle.bits.specs.Bit.{bit_of}

unfoldable pub p14_high : ℕ → Bool
p14_high v = bit_of 4 v

unfoldable pub p15_high : ℕ → Bool
p15_high v = bit_of 5 v

unfoldable pub both_high : ℕ → Bool
both_high v = p14_high v && p15_high v

-- Pan Docs, Command packet transfers: both low starts a packet, P15 alone low is a one, P14 alone low a zero, both high a release
pub data Pulse : Type 0 where
  start one zero release : Pulse

-- by P14 and P15, each true if it is high
unfoldable pub pulse_by : Bool → Bool → Pulse
pulse_by false false = start
pulse_by true false = one
pulse_by false true = zero
pulse_by true true = release

unfoldable pub pulse_of : ℕ → Pulse
pulse_of v = pulse_by (p14_high v) (p15_high v)

-- a rise of P15 moves the index on, within the mask; `was` is whether P15 was high before the write
unfoldable pub indexed : ℕ → ℕ → Bool → ℕ → ℕ
indexed index mask was v = cond (p15_high v && not was) (bit_and (index + 1) mask) index
