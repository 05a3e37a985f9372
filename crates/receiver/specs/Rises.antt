-- The joypad index after many writes, told by how often P15 rose in them: each rise is the step of `indexed` (`Lines`).
use Rattle.std.specs.Prelude.{ℕ, zero, suc, ◌+◌}
use Rattle.std.specs.Int.Bits.{bit_and}

-- the joypad index after P15 rose n times
unfoldable pub rises : ℕ → ℕ → ℕ → ℕ
rises zero x mask = x
rises (suc n) x mask = bit_and (rises n x mask + 1) mask
