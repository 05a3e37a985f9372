-- Many writes handed over call by call to `play` (`Plays`), on one block with one command buffer: what the caller holds of them.
-- That it is what `write_joypad` leaves, write by write, is proofs/Pieces: `pieces-one-by-one`.
use Rattle.std.specs.Prelude.{ℕ, zero, suc, ◌+◌, List, [], ◌∷◌, ◌++◌, take, drop}
use Rattle.std.proofs.Math.Option.{Option, none}
use Rattle.pulses.specs.Answer.{Answer, refused, given}
use Rattle.unit.specs.Plays.{Taken, play_answer, play_block, play_command}
use Rattle.unit.specs.Together.{Reply, Performed, performed_none}

-- what an answer tells taken; a refused call took none
unfoldable pub taken_of : Answer Taken → Taken
taken_of (refused n) = record { writes = 0; packets = none }
taken_of (given t) = t

-- what it stands for, one reply a write: nothing for each but the last. The buffer changes at the last alone
unfoldable pub replies_told : ℕ → Option ℕ → List ℕ → List ℕ → List Reply
replies_told zero packets before after = []
replies_told (suc zero) packets before after = record { answer = given packets; buffer = after } ∷ []
replies_told (suc (suc n)) packets before after = record { answer = given none; buffer = before } ∷ replies_told (suc n) packets before after

-- how many writes were taken in all, and what was done with them
pub record Pieces : Type 0 where
  pub taken : ℕ
  pub outcome : Performed

unfoldable pub after_replies : List Reply → Performed → Performed
after_replies rs o = record { block = o.block; buffer = o.buffer; replies = rs ++ o.replies; sights = o.sights }

unfoldable pub joined : Taken → List ℕ → List ℕ → Pieces → Pieces
joined t before after rest =
    record { taken = t.writes + rest.taken; outcome = after_replies (replies_told t.writes t.packets before after) rest.outcome }

-- call after call: the first m of the writes that are left are handed over, for each m of a list of any numbers, and the caller goes on behind
-- those that were taken
unfoldable pub by_pieces : List ℕ → List ℕ → List ℕ → List ℕ → Pieces
by_pieces b buffer ws [] = record { taken = 0; outcome = performed_none b buffer }
by_pieces b buffer ws (m ∷ ms) =
    joined (taken_of (play_answer b (take m ws) buffer)) buffer (play_command b (take m ws) buffer)
    (by_pieces (play_block b (take m ws) buffer) (play_command b (take m ws) buffer) (drop (taken_of (play_answer b (take m ws) buffer)).writes ws) ms)
