-- Writes in a row by one public call, up to and with the first that completes a command (RULES 3.10): what it answers, and what it leaves in
-- all that is lent. They are played by the rules (`Play` of the crate `block_writes`); refusals are those of a single write. A call takes at most
-- `play_most` of them, so that how many were taken crosses to C in one number with the command's packets.
-- Next door: what a caller holds who hands over many writes by such calls (`Pieces`).
use Rattle.std.specs.Prelude.{ℕ, List, take}
use Rattle.std.proofs.Math.Option.{Option}
use Rattle.bits.specs.Answer.{Answer}
use Rattle.layout.specs.Block.{load, save}
use Rattle.block_port.specs.Bytes.{handed}
use Rattle.block_writes.specs.Play.{Played, played}
use Rattle.view.specs.Looks.{leaves}
use Rattle.unit.specs.Calls.{packets_answered, with_room}

unfoldable pub play_most : ℕ
play_most = 1048576

-- how many were taken, and the packets of the command that the last of them completed: its bytes stand at the front of the buffer
pub record Taken : Type 0 where
  pub writes : ℕ
  pub packets : Option ℕ

-- what one call plays
abbrev pub played_by : List ℕ → List ℕ → Played
played_by b ws = played (load b) (take play_most ws)

unfoldable pub play_answer : List ℕ → List ℕ → List ℕ → Answer Taken
play_answer b ws command = with_room b command (record { writes = (played_by b ws).at; packets = packets_answered (played_by b ws).told })

unfoldable pub play_block : List ℕ → List ℕ → List ℕ → List ℕ
play_block b ws command = leaves (play_answer b ws command) (save (played_by b ws).unit) b

unfoldable pub play_command : List ℕ → List ℕ → List ℕ → List ℕ
play_command b ws command = leaves (play_answer b ws command) (handed (played_by b ws).told command) command
