-- The public calls that change a block: what each answers, and what it leaves in every lent byte, for all input. RULES 2, 3.9 and 5.1: the
-- tests stand in the order of RULES 2.2, and a refusal leaves every byte as it was. What a call does to a valid block is the rules' (`Write`
-- and `Screen` of the crate `rules`), read from the block and put back (`load` and `save`).
use Rattle.std.specs.Prelude.{ℕ, cond, List, eqb, leb, length}
use Rattle.std.proofs.Math.Option.{Option, none, some}
use Rattle.pulses.specs.Answer.{Answer, refused, given}
use Rattle.transfer.specs.Pending.{landed_of}
use Rattle.parts.specs.Parts.{block_bytes, store_bytes, capture_bytes}
use Rattle.layout.specs.Block.{load, save}
use Rattle.layout.specs.Fresh.{new, post_boot}
use Rattle.rules.specs.Write.{written, answer}
use Rattle.rules.specs.Screen.{screened, landing}
use Rattle.block_port.specs.Bytes.{handed, packets_told}
use Rattle.view.specs.Refusal.{refusing}
use Rattle.view.specs.Looks.{leaves}

-- ---- with a buffer for the command that a write may complete: refusals 1, 21 to 26, 6 (112)

-- what a call answers that would answer a
unfoldable pub with_room : {A : Type 0} → List ℕ → List ℕ → A → Answer A
with_room b command a = refusing b (cond (leb store_bytes (length command)) (given a) (refused 6))

-- ---- a joypad write

-- the packets of a command that is complete: its bytes stand at the front of the buffer
unfoldable pub packets_answered : Option (List ℕ) → Option ℕ
packets_answered none = none
packets_answered (some d) = some (packets_told (some d))

unfoldable pub write_answer : List ℕ → ℕ → List ℕ → Answer (Option ℕ)
write_answer b v command = with_room b command (packets_answered (answer (load b) v))

unfoldable pub write_block : List ℕ → ℕ → List ℕ → List ℕ
write_block b v command = leaves (write_answer b v command) (save (written (load b) v)) b

unfoldable pub write_command : List ℕ → ℕ → List ℕ → List ℕ
write_command b v command = leaves (write_answer b v command) (handed (answer (load b) v) command) command

-- ---- a screen: refusals 1, 21 to 26, 3

unfoldable pub screen_answer : List ℕ → List ℕ → Answer (Option ℕ)
screen_answer b x = refusing b (cond (eqb (length x) capture_bytes) (given (landed_of (landing (load b).snes))) (refused 3))

unfoldable pub screen_block : List ℕ → List ℕ → List ℕ
screen_block b x = leaves (screen_answer b x) (save (screened (load b) x)) b

-- ---- a fresh block: refusal 1 alone

unfoldable pub fresh_answer : List ℕ → ℕ
fresh_answer b = cond (eqb (length b) block_bytes) 0 1

unfoldable pub new_block : List ℕ → List ℕ
new_block b = cond (eqb (length b) block_bytes) new b

unfoldable pub post_boot_block : List ℕ → List ℕ
post_boot_block b = cond (eqb (length b) block_bytes) post_boot b
