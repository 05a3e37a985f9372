-- The pulses of a command, 260 writes a packet. RULES 7.1; Pan Docs, Command packet transfers.
use Rattle.std.specs.Prelude.{Result, ℕ, zero, suc, ◌*◌, ◌/◌, ◌%◌, ◌≡◌, Bool, cond, List, [], ◌∷◌, ◌++◌, ltb, length, take, drop}
use Rattle.pulses.specs.Answer.{Answer, refused, given, encoded_answer}
use Rattle.pulses.specs.Bytes.{packets_in, malformed}
use Rattle.refusal.specs.declared.Refusal.{Refusal}

-- the n lowest bits of x, least significant first
unfoldable pub bits_of : ℕ → ℕ → List ℕ
bits_of zero x = []
bits_of (suc n) x = x % 2 ∷ bits_of n (x / 2)

-- the bits of some bytes
unfoldable pub bits_in : List ℕ → List ℕ
bits_in [] = []
bits_in (x ∷ xs) = bits_of 8 x ++ bits_in xs

-- the write for a bit
unfoldable pub pulse : ℕ → ℕ
pulse zero = 0x20
pulse (suc b) = 0x10

-- the writes for some bits, each with its release
unfoldable pub sent : List ℕ → List ℕ
sent [] = []
sent (b ∷ bs) = pulse b ∷ 0x30 ∷ sent bs

unfoldable pub packet_pulses : List ℕ → List ℕ
packet_pulses q = 0x00 ∷ 0x30 ∷ (sent (bits_in q) ++ (0x20 ∷ 0x30 ∷ []))

-- n packets of sixteen bytes
unfoldable pub pulses_of : ℕ → List ℕ → List ℕ
pulses_of zero c = []
pulses_of (suc n) c = packet_pulses (take 16 c) ++ pulses_of n (drop 16 c)

-- refusal 6: the output has no room for all of the writes (RULES 2.6)
unfoldable pub short : List ℕ → ℕ → Bool
short c room = ltb room (260 * packets_in c)

-- what the encoder answers for a command and an output of this length: the lowest refusal first (RULES 2.2)
unfoldable pub encoding : List ℕ → ℕ → Answer ℕ
encoding c room =
    cond (malformed c) (refused 5) (cond (short c room) (refused 6) (given (260 * packets_in c)))

-- the output after it: a refusal changes no byte, and what is longer than the writes keeps its tail (RULES 2.3)
unfoldable pub encoded : List ℕ → List ℕ → List ℕ
encoded c out =
    cond (malformed c) out
    (cond (short c (length out)) out (pulses_of (packets_in c) c ++ drop (260 * packets_in c) out))

-- the contract of `encode`: for a command c and an output `out` it answers r and leaves `after`
pub record Encodes (c out : List ℕ) (r : Result ℕ Refusal) (after : List ℕ) : Type 0 where
  pub answer : encoded_answer r ≡ encoding c (length out)
  pub output : after ≡ encoded c out
