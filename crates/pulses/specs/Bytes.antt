-- A command is a list of bytes; which lists are commands.
-- RULES 2.1: the others get refusal 5.
use Rattle.std.specs.Prelude.{ℕ, ◌*◌, ◌<◌, Bool, not, ◌||◌, List, [], ◌∷◌, eqb, length, get_or}
use Rattle.receiver.specs.Count.{count_of}

abbrev pub Bytes : List ℕ → Type 0
Bytes [] = Unit {0}
Bytes (x ∷ xs) = (x < 256) × Bytes xs

-- the packets that a command's first byte tells
unfoldable pub packets_in : List ℕ → ℕ
packets_in c = count_of (get_or c 0 0)

unfoldable pub malformed : List ℕ → Bool
malformed c = eqb (length c) 0 || (not (eqb (length c) (16 * packets_in c)) || eqb (packets_in c) 0)
