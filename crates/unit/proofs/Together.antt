-- Demand 3 over the public calls: from a valid block and a buffer with room for a command no write is refused, so the calls do what the rules
-- do on blocks (`order`), and the buffer is told by the answers; two aligned logs then leave the same bytes and answer alike.
use Prim.Native.Nat.{ℕ, ◌*◌, ◌/◌, ◌≤◌}
use native.Mathlib.Omega.{arith}
use mathlib.Core.Path.{◌≡◌, refl, sym, ap, ◌∙◌}
use mathlib.Core.Bool.{Bool, true, false, cond}
use mathlib.Core.List.{List, [], ◌∷◌, map}
use mathlib.Core.Option.{Option, none, some}
use borrow.Author.Tests.{eqb-true, le-leb}
use lib.Dec.{eqb}
use lib.ListN.{length, drop}
use lib.Seq.{take_at}
use Rattle.pulses.specs.Answer.{refused, given}
use Rattle.transfer.specs.Pending.{landed_of}
use Rattle.parts.specs.Parts.{store_bytes, capture_bytes}
use Rattle.layout.specs.Block.{load, save}
use Rattle.layout.specs.Valid.{valid, Valid}
use Rattle.layout.proofs.Saved.{clauses}
use Rattle.layout.proofs.Goods.{valid-good, good-valid}
use Rattle.rules.specs.Write.{written, answer}
use Rattle.rules.specs.Screen.{screened, landing}
use Rattle.rules.proofs.Keeps.{WholeIf, good-written, good-screened}
use Rattle.order.specs.Log.{Act, write, screen, accepts, seen, Aligned}
use Rattle.order.specs.Log as log
use Rattle.order.specs.Blocks.{called_write, called_screen, written_block, seen_block, calls}
use Rattle.order.proofs.BlockOrder.{block-order}
use Rattle.block_port.specs.Bytes.{handed, packets_told}
use Rattle.block_port.proofs.Handed.{length-handed}
use Rattle.view.specs.Looks.{leaves}
use Rattle.view.proofs.Refusals.{answers}
use Rattle.unit.specs.Calls.{packets_answered, with_room, write_answer, write_block, write_command, screen_answer, screen_block}
use Rattle.unit.specs.Together.{command_in, command_held, Performed, done_write, done_screen, performed, replies_of, buffer_after, sight_of, performed_by}
use Rattle.unit.proofs.Writes.{answer-whole}

-- ---- one call

held : (b : List ℕ) → valid b ≡ true → Valid b
held b v = record { long = (clauses b v).long; tested = v }

write-taken : (b : List ℕ) (v : ℕ) (buffer : List ℕ) → valid b ≡ true → store_bytes ≤ length buffer → write_answer b v buffer ≡ given (packets_answered (answer (load b) v))
unfolding write_answer with_room
write-taken b v buffer k h =
    sym (answers b _ (held b k)) ∙ ap (λ t. cond t (given (packets_answered (answer (load b) v))) (refused 6)) (le-leb store_bytes (length buffer) h)

-- what a screen answers, of a valid block
screen-taken : (b x : List ℕ) → valid b ≡ true → screen_answer b x ≡ sight_of (seen (load b).snes x)
unfolding screen_answer seen accepts
screen-taken b x k = sym (answers b _ (held b k)) ∙ go (eqb (length x) capture_bytes)
  where
    go : (t : Bool) → cond t (given (landed_of (landing (load b).snes))) (refused 3) ≡ sight_of (cond t (log.took (landing (load b).snes)) (log.refused 3))
    go true = unfold sight_of in refl
    go false = unfold sight_of in refl

screen-left : (b x : List ℕ) → valid b ≡ true → screen_block b x ≡ seen_block b x
unfolding screen_block seen_block screen_answer accepts
screen-left b x k = ap (λ a. leaves a (save (screened (load b) x)) b) (sym (answers b _ (held b k))) ∙ go (eqb (length x) capture_bytes)
  where
    go : (t : Bool) → leaves (cond t (given (landed_of (landing (load b).snes))) (refused 3)) (save (screened (load b) x)) b ≡ cond t (save (screened (load b) x)) b
    go true = unfold leaves in refl
    go false = unfold leaves in refl

seen-valid : (b x : List ℕ) → valid b ≡ true → valid (seen_block b x) ≡ true
unfolding seen_block
seen-valid b x k = go (accepts x) refl
  where
    go : (t : Bool) → accepts x ≡ t → valid (cond t (save (screened (load b) x)) b) ≡ true
    go true e = good-valid (screened (load b) x) (good-screened (load b) x (eqb-true (length x) capture_bytes (unfold accepts in e)) (valid-good b k))
    go false e = k

pub written-valid : (b : List ℕ) (v : ℕ) → valid b ≡ true → valid (written_block b v) ≡ true
unfolding written_block
written-valid b v k = good-valid (written (load b) v) (good-written (load b) v (valid-good b k))

-- a command leaves the buffer's length
pub handed-long : (b : List ℕ) (v : ℕ) (buffer : List ℕ) → valid b ≡ true → store_bytes ≤ length buffer → length (handed (answer (load b) v) buffer) ≡ length buffer
handed-long b v buffer k h = length-handed (answer (load b) v) buffer (answer-whole (load b) v (valid-good b k)) h

-- ---- a whole log

-- a write of a valid block, with room for a command, leaves what the rules give, and the log goes on from there
pub performed-write : (b : List ℕ) (v : ℕ) (buffer : List ℕ) (l : List Act) → valid b ≡ true → store_bytes ≤ length buffer
    → performed b buffer (write v ∷ l)
    ≡ done_write (record { answer = given (packets_answered (answer (load b) v)); buffer = handed (answer (load b) v) buffer })
    (performed (written_block b v) (handed (answer (load b) v) buffer) l)
unfolding performed write_block write_command leaves written_block
performed-write b v buffer l k h =
    ap
    (λ a.
    done_write (record { answer = a; buffer = leaves a (handed (answer (load b) v) buffer) buffer })
    (performed (leaves a (save (written (load b) v)) b) (leaves a (handed (answer (load b) v) buffer) buffer) l))
    (write-taken b v buffer k h)

-- of a valid block, with room for a command, the calls do what the rules give: no write is refused, and the buffer is told by the answers
pub performed-calls : (b buffer : List ℕ) (l : List Act) → valid b ≡ true → store_bytes ≤ length buffer → performed b buffer l ≡ performed_by buffer (calls b l)
unfolding performed calls performed_by buffer_after replies_of done_write done_screen called_write called_screen
performed-calls b buffer [] k h = refl
performed-calls b buffer (write v ∷ l) k h =
    performed-write b v buffer l k h
    ∙ ap (done_write (record { answer = given (packets_answered (answer (load b) v)); buffer = handed (answer (load b) v) buffer }))
    (performed-calls (written_block b v) (handed (answer (load b) v) buffer) l (written-valid b v k) (omega (arith, handed-long b v buffer k h)))
performed-calls b buffer (screen x ∷ l) k h =
    (λ t. done_screen (screen-taken b x k t) (performed (screen-left b x k t) buffer l))
    ∙ ap (done_screen (sight_of (seen (load b).snes x))) (performed-calls (seen_block b x) buffer l (seen-valid b x k) h)

-- a reply holds the command that was answered
held-command : (o : Option (List ℕ)) (buffer : List ℕ) → WholeIf o → command_in (given (packets_answered o)) (handed o buffer) ≡ given o
unfolding command_in packets_answered packets_told handed
held-command none buffer w = refl
held-command (some d) buffer w = ap (λ (l : List ℕ). given (some l)) (take_at d (drop (length d) buffer) (16 * (length d / 16)) (omega (arith, w.packets)))

held-commands : (b buffer : List ℕ) (l : List Act) → valid b ≡ true → map command_held (replies_of (calls b l).answers buffer) ≡ map given (calls b l).answers
unfolding calls replies_of called_write called_screen
held-commands b buffer [] k = refl
held-commands b buffer (write v ∷ l) k =
    let z = held-commands (written_block b v) (handed (answer (load b) v) buffer) l (written-valid b v k) in
    let y = held-command (answer (load b) v) buffer (answer-whole (load b) v (valid-good b k)) in
    λ t. y t ∷ z t
held-commands b buffer (screen x ∷ l) k = held-commands (seen_block b x) buffer l (seen-valid b x k)

-- each write's answer is its command's bytes: what the caller holds after it is what the rules answer
pub replies-commands : (b buffer : List ℕ) (l : List Act) → valid b ≡ true → store_bytes ≤ length buffer
    → map command_held (performed b buffer l).replies ≡ map given (calls b l).answers
unfolding performed_by
replies-commands b buffer l k h = ap (λ (o : Performed). map command_held o.replies) (performed-calls b buffer l k h) ∙ held-commands b buffer l k

-- demand 3: a valid block, a buffer with room, and two logs with the same writes and the same screens in which each fixed write has equally
-- many screens before it: the same block, the same buffer after each write and at the end, and the same answer to each write and to each screen
pub calls-order : (k buffer : List ℕ) → valid k ≡ true → store_bytes ≤ length buffer → (a b : List Act) → Aligned (load k) a b → performed k buffer a ≡ performed k buffer b
calls-order k buffer v h a b e = performed-calls k buffer a v h ∙ ap (performed_by buffer) (block-order k v a b e) ∙ sym (performed-calls k buffer b v h)
