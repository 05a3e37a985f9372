-- Whether a command conforms: its code, its number of packets and the number that it announces are on Pan Docs' list, and its packets hold
-- all that it announces. RULES 7.2; Pan Docs, Command summary (packets), Attributes (the sets of ATTR_BLK, the lines of ATTR_LIN, the cells of
-- ATTR_CHR, and where in a command they stand).
use Rattle.std.specs.Prelude.{Result, ℕ, ◌+◌, ◌*◌, ◌/◌, ◌≡◌, Bool, true, ◌&&◌, ◌||◌, cond, List, eqb, leb, get_or}
use Rattle.bits.specs.Word.{word_at}
use Rattle.receiver.specs.Count.{code_of}
use Rattle.pulses.specs.Answer.{Answer, refused, given, verdict_answer}
use Rattle.pulses.specs.Bytes.{packets_in, malformed}
use Rattle.refusal.specs.declared.Refusal.{Refusal}

abbrev pub attr_blk : ℕ
attr_blk = 0x04

abbrev pub attr_lin : ℕ
attr_lin = 0x05

abbrev pub attr_chr : ℕ
attr_chr = 0x07

-- the greatest code, PAL_PRI
abbrev pub last_code : ℕ
last_code = 0x19

-- ---- the three that announce how many items they bring: sets, lines, cells

unfoldable pub announces : ℕ → Bool
announces code = eqb code attr_blk || (eqb code attr_lin || eqb code attr_chr)

-- how many: byte 1, or for cells the word at byte 3
unfoldable pub announced : ℕ → List ℕ → ℕ
announced code c = cond (eqb code attr_chr) (word_at c 3) (get_or c 1 0)

-- how many there may be
unfoldable pub most_items : ℕ → ℕ
most_items code = cond (eqb code attr_blk) 18 (cond (eqb code attr_lin) 110 360)

-- the bytes of a command up to the end of its n items: from byte 2 on six a set, or one a line; from byte 6 on one for every four
-- cells, rounded up
unfoldable pub bytes_for : ℕ → ℕ → ℕ
bytes_for code n = cond (eqb code attr_blk) (2 + 6 * n) (cond (eqb code attr_lin) (2 + n) (6 + (n + 3) / 4))

abbrev pub one_to : ℕ → ℕ → Bool
one_to most n = leb 1 n && leb n most

-- n items may be announced, and so many packets hold them all
unfoldable pub brings : ℕ → ℕ → ℕ → Bool
brings code packets n = one_to (most_items code) n && leb (bytes_for code n) (16 * packets)

-- ---- any command

-- one packet, but for those three
unfoldable pub most_packets : ℕ → ℕ
most_packets code = cond (eqb code attr_blk || eqb code attr_lin) 7 (cond (eqb code attr_chr) 6 1)

unfoldable pub conforms_by : ℕ → List ℕ → Bool
conforms_by code c =
    leb code last_code
    && (leb (packets_in c) (most_packets code) && cond (announces code) (brings code (packets_in c) (announced code c)) true)

unfoldable pub conforms : List ℕ → Bool
conforms c = conforms_by (code_of (get_or c 0 0)) c

-- what the verdict answers
unfoldable pub judged : List ℕ → Answer Bool
judged c = cond (malformed c) (refused 5) (given (conforms c))

-- the contract of `verdict`: of a command c it answers r
pub record Judges (c : List ℕ) (r : Result Bool Refusal) : Type 0 where
  pub answer : verdict_answer r ≡ judged c
