-- One bit of a number, counted from the least significant.
use Rattle.std.specs.Prelude.{ℕ, ◌/◌, ◌%◌, ◌^◌, Bool, eqb}

-- bit k of n, as 0 or 1
unfoldable pub bit_at : ℕ → ℕ → ℕ
bit_at k n = n / 2 ^ k % 2

-- bit k of n is set
unfoldable pub bit_of : ℕ → ℕ → Bool
bit_of k n = eqb (n / 2 ^ k % 2) 1
