-- A log run by the public calls, one after another on one block with one command buffer: what each answers, the buffer after each write, and
-- the block at the end. The block between two calls is not told: it differs where writes and screens are merged differently.
use Rattle.std.specs.Prelude.{ℕ, ◌*◌, List, [], ◌∷◌, map, take}
use Rattle.std.proofs.Math.Option.{Option, none, some}
use Rattle.pulses.specs.Answer.{Answer, refused, given}
use Rattle.transfer.specs.Pending.{landed_of}
use Rattle.order.specs.Log.{Act, write, screen, Seen}
use Rattle.order.specs.Log as log
use Rattle.order.specs.Blocks.{Called}
use Rattle.block_port.specs.Bytes.{handed}
use Rattle.unit.specs.Calls.{packets_answered, write_answer, write_block, write_command, screen_answer, screen_block}

-- what a write leaves with its caller: its answer, and every byte of the buffer after it
pub record Reply : Type 0 where
  pub answer : Answer (Option ℕ)
  pub buffer : List ℕ

-- the command that the caller then holds, its 16 to 112 bytes: so many packets at the buffer's front
unfoldable pub command_in : Answer (Option ℕ) → List ℕ → Answer (Option (List ℕ))
command_in (refused n) buffer = refused n
command_in (given none) buffer = given none
command_in (given (some n)) buffer = given (some (take (16 * n) buffer))

abbrev pub command_held : Reply → Answer (Option (List ℕ))
command_held r = command_in r.answer r.buffer

-- the block and the buffer at the end, and in order what each write left with its caller and what each screen was answered
pub record Performed : Type 0 where
  pub block : List ℕ
  pub buffer : List ℕ
  pub replies : List Reply
  pub sights : List (Answer (Option ℕ))

abbrev pub performed_none : List ℕ → List ℕ → Performed
performed_none b buffer = record { block = b; buffer = buffer; replies = []; sights = [] }

unfoldable pub done_write : Reply → Performed → Performed
done_write r o = record { block = o.block; buffer = o.buffer; replies = r ∷ o.replies; sights = o.sights }

unfoldable pub done_screen : Answer (Option ℕ) → Performed → Performed
done_screen a o = record { block = o.block; buffer = o.buffer; replies = o.replies; sights = a ∷ o.sights }

unfoldable pub performed : List ℕ → List ℕ → List Act → Performed
performed b buffer [] = performed_none b buffer
performed b buffer (write v ∷ l) =
    done_write (record { answer = write_answer b v buffer; buffer = write_command b v buffer }) (performed (write_block b v buffer) (write_command b v buffer) l)
performed b buffer (screen x ∷ l) = done_screen (screen_answer b x) (performed (screen_block b x) buffer l)

-- ---- the same by the rules: what the calls do of a valid block, with room for a command (`performed-calls` of proofs/Together)

-- the replies to writes of which the rules answer these, and the buffer after them
unfoldable pub replies_of : List (Option (List ℕ)) → List ℕ → List Reply
replies_of [] buffer = []
replies_of (a ∷ l) buffer = record { answer = given (packets_answered a); buffer = handed a buffer } ∷ replies_of l (handed a buffer)

unfoldable pub buffer_after : List (Option (List ℕ)) → List ℕ → List ℕ
buffer_after [] buffer = buffer
buffer_after (a ∷ l) buffer = buffer_after l (handed a buffer)

-- what a screen is answered
unfoldable pub sight_of : Seen → Answer (Option ℕ)
sight_of (log.refused n) = refused n
sight_of (log.took l) = given (landed_of l)

unfoldable pub performed_by : List ℕ → Called → Performed
performed_by buffer o =
    record { block = o.block; buffer = buffer_after o.answers buffer; replies = replies_of o.answers buffer; sights = map sight_of o.sights }
