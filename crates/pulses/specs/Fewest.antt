-- The fewest packets that hold so many items, and a command that announces so many: what the author of a game asks of the verdict.
-- RULES 7.2. The laws are in proofs/Fewest.
use Rattle.std.specs.Prelude.{ℕ, ◌+◌, ◌-◌, ◌*◌, ◌/◌, ◌≡◌, true, cond, List, [], ◌∷◌, eqb, length, get_or, replicate}
use Rattle.bits.specs.Word.{low_byte, high_byte}
use Rattle.receiver.specs.Count.{code_of}
use Rattle.pulses.specs.Answer.{given}
use Rattle.pulses.specs.Bytes.{Bytes, packets_in}
use Rattle.pulses.specs.Verdict.{attr_chr, announced, bytes_for, judged}

-- sixteen bytes a packet, rounded up
unfoldable pub fewest : ℕ → ℕ → ℕ
fewest code n = (bytes_for code n + 15) / 16

-- a command of so many packets that announces n items, with d for all that comes behind the number; cells begin at the map's first
unfoldable pub announcing : ℕ → ℕ → ℕ → List ℕ → List ℕ
announcing code packets n d = (8 * code + packets) ∷ cond (eqb code attr_chr) (0 ∷ 0 ∷ low_byte n ∷ high_byte n ∷ d) (n ∷ d)

-- the same with nothing but zeros behind the number
unfoldable pub bare : ℕ → ℕ → ℕ → List ℕ
bare code packets n = announcing code packets n (replicate (16 * packets - length (announcing code packets n [])) 0)

-- c is a command that conforms: of this code, of so many packets, and it announces n items
pub record Sends (code packets n : ℕ) (c : List ℕ) : Type 0 where
  pub bytes : Bytes c
  pub of_code : code_of (get_or c 0 0) ≡ code
  pub in_packets : packets_in c ≡ packets
  pub number : announced code c ≡ n
  pub conforming : judged c ≡ given true
