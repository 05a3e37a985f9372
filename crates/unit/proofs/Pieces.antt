-- Writes handed over call by call to `play` do what `write_joypad` does one by one: one call plays what single writes would leave, by induction
-- over the writes; and what one call left is where the next begins.
use Prim.Native.Nat.{ℕ, zero, suc, ◌≤◌}
use native.Mathlib.Omega.{arith}
use mathlib.Core.Path.{◌≡◌, refl, sym, ap, ◌∙◌, subst, subst⁻¹}
use mathlib.Core.Bool.{true}
use mathlib.Core.List.{List, [], ◌∷◌, ◌++◌, map}
use mathlib.Core.Option.{Option, none, some, IsSome}
use lib.ListN.{length, take, drop, length-take}
use lib.Seq.{take-take, take-add}
use Rattle.pulses.specs.Answer.{given}
use Rattle.parts.specs.Parts.{store_bytes}
use Rattle.layout.specs.Block.{load, save}
use Rattle.layout.specs.Sgb.{Sgb}
use Rattle.layout.specs.Valid.{valid}
use Rattle.layout.proofs.Saved.{save-load, clauses}
use Rattle.layout.proofs.Goods.{valid-good, good-valid, good-back}
use Rattle.rules.specs.Write.{written, answer}
use Rattle.rules.proofs.Keeps.{good-written}
use Rattle.order.specs.Log.{write}
use Rattle.order.specs.Blocks.{written_block}
use Rattle.block_port.specs.Bytes.{handed}
use Rattle.block_port.proofs.Handed.{length-handed}
use Rattle.block_writes.specs.Play.{Played, stop, played}
use Rattle.block_writes.proofs.Plays.{kept-played}
use Rattle.unit.specs.Calls.{packets_answered, write_answer, write_block, write_command}
use Rattle.unit.specs.Plays.{play_most, played_by, Taken, play_answer, play_block, play_command}
use Rattle.unit.specs.Together.{Reply, Performed, performed_none, done_write, performed}
use Rattle.unit.specs.Pieces.{taken_of, replies_told, Pieces, after_replies, joined, by_pieces}
use Rattle.unit.proofs.Together.{performed-write, written-valid, handed-long}
use Rattle.unit.proofs.Calling.{room-given}

-- ---- how many are played

-- some, if there are any, and no more than there are
pub played-few : (u : Sgb) (ws : List ℕ) → (played u ws).at ≤ length ws
unfolding played
played-few u [] = omega arith
played-few u (v ∷ vs) = go (answer u v) (played-few (written u v) vs)
  where
    go : (o : Option (List ℕ)) → (played (written u v) vs).at ≤ length vs → (stop o (written u v) (played (written u v) vs)).at ≤ suc (length vs)
    go none h = unfold stop in omega arith
    go (some c) h = unfold stop in omega arith

pub played-some : (u : Sgb) (v : ℕ) (vs : List ℕ) → 1 ≤ (played u (v ∷ vs)).at
unfolding played
played-some u v vs = go (answer u v)
  where
    go : (o : Option (List ℕ)) → 1 ≤ (stop o (written u v) (played (written u v) vs)).at
    go none = unfold stop in omega arith
    go (some c) = unfold stop in omega arith

-- all of them, where none completes a command
pub played_all : (u : Sgb) (ws : List ℕ) → (played u ws).told ≡ none → (played u ws).at ≡ length ws
unfolding played
played_all u [] e = refl
played_all u (v ∷ vs) e = go (answer u v) e (played_all (written u v) vs)
  where
    rest : Played
    rest = played (written u v) vs

    go : (o : Option (List ℕ)) → (stop o (written u v) rest).told ≡ none → (rest.told ≡ none → rest.at ≡ length vs) → (stop o (written u v) rest).at ≡ suc (length vs)
    go none e h = unfold stop in ap suc (h (unfold stop in e))
    go (some c) e h = absurd (unfold stop in subst IsSome e tt)

-- none is told where none is played
none_told : (u : Sgb) (ws : List ℕ) → (played u ws).at ≡ 0 → (played u ws).told ≡ none
none_told u [] e = unfold played in refl
none_told u (v ∷ vs) e = let k = played-some u v vs in absurd (omega arith)

-- ---- one call

replies-more : (n : ℕ) (packets : Option ℕ) (before after : List ℕ) → (n ≡ 0 → (packets ≡ none) × (after ≡ before))
    → record { answer = given none; buffer = before } ∷ replies_told n packets before after ≡ replies_told (suc n) packets before after
unfolding replies_told
replies-more zero packets before after h = λ t. record { answer = given (sym (h refl).0 t); buffer = sym (h refl).1 t } ∷ []
replies-more (suc n) packets before after h = refl

abbrev left : List ℕ → Played → Performed
left buffer p = record {
  block = save p.unit;
  buffer = handed p.told buffer;
  replies = replies_told p.at (packets_answered p.told) buffer (handed p.told buffer);
  sights = [];
}

-- a write that completes nothing, before what is played behind it
more : (buffer : List ℕ) (p : Played) → (p.at ≡ 0 → p.told ≡ none)
    → done_write (record { answer = given (packets_answered none); buffer = handed none buffer }) (left (handed none buffer) p)
    ≡ left buffer (record { unit = p.unit; at = suc p.at; told = p.told })
unfolding done_write packets_answered handed
more buffer p h =
    ap (λ (rs : List Reply). record { block = save p.unit; buffer = handed p.told buffer; replies = rs; sights = [] })
    (replies-more p.at (packets_answered p.told) buffer (handed p.told buffer) (λ z. (ap packets_answered (h z), ap (λ (o : Option (List ℕ)). handed o buffer) (h z))))

-- single writes leave what is played of them
pub performed-played : (b buffer ws : List ℕ) → valid b ≡ true → store_bytes ≤ length buffer
    → performed b buffer (map write (take (played (load b) ws).at ws)) ≡ left buffer (played (load b) ws)
unfolding played
performed-played b buffer [] k h = unfold performed handed replies_told in λ t. performed_none (sym (save-load b (clauses b k)) t) buffer
performed-played b buffer (v ∷ vs) k h =
    let w : Sgb = written (load b) v in
    let g = valid-good b k in
    let again : load (written_block b v) ≡ w = unfold written_block in good-back w (good-written (load b) v g) in
    let rest = performed-played (written_block b v) (handed (answer (load b) v) buffer) vs (written-valid b v k) (omega (arith, handed-long b v buffer k h)) in
    go (answer (load b) v) refl
    (subst (λ (u : Sgb). performed (written_block b v) (handed (answer (load b) v) buffer) (map write (take (played u vs).at vs)) ≡ left (handed (answer (load b) v) buffer) (played u vs)) again rest)
  where
    go : (o : Option (List ℕ)) → answer (load b) v ≡ o
        → performed (written_block b v) (handed (answer (load b) v) buffer) (map write (take (played (written (load b) v) vs).at vs))
        ≡ left (handed (answer (load b) v) buffer) (played (written (load b) v) vs)
        → performed b buffer (map write (take (stop o (written (load b) v) (played (written (load b) v) vs)).at (v ∷ vs)))
        ≡ left buffer (stop o (written (load b) v) (played (written (load b) v) vs))
    go none e rest =
        let p : Played = played (written (load b) v) vs in
        unfold stop in
        performed-write b v buffer (map write (take p.at vs)) k h
        ∙ ap (done_write (record { answer = given (packets_answered (answer (load b) v)); buffer = handed (answer (load b) v) buffer })) rest
        ∙ ap (λ (o : Option (List ℕ)). done_write (record { answer = given (packets_answered o); buffer = handed o buffer }) (left (handed o buffer) p)) e
        ∙ more buffer p (λ z. none_told (written (load b) v) vs z)
    go (some c) e rest =
        unfold stop in
        performed-write b v buffer [] k h
        ∙ ap (λ (o : Option (List ℕ)). done_write (record { answer = given (packets_answered o); buffer = handed o buffer }) (performed (written_block b v) (handed o buffer) [])) e
        ∙ (unfold done_write performed handed packets_answered replies_told written_block in refl)

-- ---- call after call

-- a log of writes goes on where its first part ended
performed_on : (b buffer xs ys : List ℕ)
    → performed b buffer (map write (xs ++ ys))
    ≡ after_replies (performed b buffer (map write xs)).replies
    (performed (performed b buffer (map write xs)).block (performed b buffer (map write xs)).buffer (map write ys))
unfolding performed after_replies done_write
performed_on b buffer [] ys = refl
performed_on b buffer (x ∷ xs) ys =
    ap (done_write (record { answer = write_answer b x buffer; buffer = write_command b x buffer }))
    (performed_on (write_block b x buffer) (write_command b x buffer) xs ys)

-- what one call answers and leaves of a valid block, with room for a command
module _ (b buffer ws : List ℕ) (k : valid b ≡ true) (h : store_bytes ≤ length buffer) where
  abbrev p : Played
  p = played_by b ws

  abbrev all : Taken
  all = record { writes = p.at; packets = packets_answered p.told }

  called : (given all ≡ play_answer b ws buffer) × ((save p.unit ≡ play_block b ws buffer) × (handed p.told buffer ≡ play_command b ws buffer))
  unfolding play_answer play_block play_command
  called = room-given b buffer all (save p.unit) (handed p.told buffer) all _ _ (record { long = (clauses b k).long; tested = k }) h refl refl refl

  pub call-takes : taken_of (play_answer b ws buffer) ≡ all
  unfolding taken_of
  call-takes = sym (ap taken_of called.0)

  call-valid : valid (save p.unit) ≡ true
  call-valid = good-valid p.unit (kept-played (load b) (take play_most ws) (valid-good b k)).good

  call-room : store_bytes ≤ length (handed p.told buffer)
  call-room = let e = length-handed p.told buffer (kept-played (load b) (take play_most ws) (valid-good b k)).whole h in omega arith

-- the writes that a call takes of a piece are the first of those that are left
first_taken : (u : Sgb) (m : ℕ) (ws : List ℕ) → take (played u (take play_most (take m ws))).at (take play_most (take m ws)) ≡ take (played u (take play_most (take m ws))).at ws
first_taken u m ws =
    let few = played-few u (take play_most (take m ws)) in
    let long = length-take play_most (take m ws) in
    let longer = length-take m ws in
    take-take (played u (take play_most (take m ws))).at play_most (take m ws) (omega arith) ∙ take-take (played u (take play_most (take m ws))).at m ws (omega arith)

-- one call, and then those that go on behind what it took
module _ (b buffer ws : List ℕ) (m : ℕ) (ms : List ℕ) (k : valid b ≡ true) (h : store_bytes ≤ length buffer) where
  abbrev q : Played
  q = played_by b (take m ws)

  abbrev rest : Pieces
  rest = by_pieces (save q.unit) (handed q.told buffer) (drop q.at ws) ms

  AsWritten : Pieces → Type 0
  AsWritten x = x.outcome ≡ performed b buffer (map write (take x.taken ws))

  first : performed b buffer (map write (take q.at ws)) ≡ left buffer q
  first = sym (ap (λ (l : List ℕ). performed b buffer (map write l)) (first_taken (load b) m ws)) ∙ performed-played b buffer (take play_most (take m ws)) k h

  on : rest.outcome ≡ performed (save q.unit) (handed q.told buffer) (map write (take rest.taken (drop q.at ws)))
      → AsWritten (joined (all b buffer (take m ws) k h) buffer (handed q.told buffer) rest)
  unfolding AsWritten joined
  on e =
      ap (after_replies (replies_told q.at (packets_answered q.told) buffer (handed q.told buffer))) e
      ∙ sym (ap (λ (o : Performed). after_replies o.replies (performed o.block o.buffer (map write (take rest.taken (drop q.at ws))))) first)
      ∙ sym (performed_on b buffer (take q.at ws) (take rest.taken (drop q.at ws)))
      ∙ sym (ap (λ (l : List ℕ). performed b buffer (map write l)) (take-add q.at rest.taken ws))

  piece : rest.outcome ≡ performed (save q.unit) (handed q.told buffer) (map write (take rest.taken (drop q.at ws)))
      → (by_pieces b buffer ws (m ∷ ms)).outcome ≡ performed b buffer (map write (take (by_pieces b buffer ws (m ∷ ms)).taken ws))
  unfolding AsWritten by_pieces
  piece e =
      let c = called b buffer (take m ws) k h in
      let t = call-takes b buffer (take m ws) k h in
      subst⁻¹ AsWritten (λ i. joined (t i) buffer (sym c.1.1 i) (by_pieces (sym c.1.0 i) (sym c.1.1 i) (drop (t i).writes ws) ms)) (on e)

-- however many are handed over in each call, those that were taken have been written one by one: the same block, the same buffer after each write,
-- and the same answer to each
pub pieces-one-by-one : (b buffer ws ms : List ℕ) → valid b ≡ true → store_bytes ≤ length buffer
    → (by_pieces b buffer ws ms).outcome ≡ performed b buffer (map write (take (by_pieces b buffer ws ms).taken ws))
pieces-one-by-one b buffer ws [] k h = unfold by_pieces performed in refl
pieces-one-by-one b buffer ws (m ∷ ms) k h =
    piece b buffer ws m ms k h
    (pieces-one-by-one (save (played_by b (take m ws)).unit) (handed (played_by b (take m ws)).told buffer) (drop (played_by b (take m ws)).at ws) ms (call-valid b buffer (take m ws) k h) (call-room b buffer (take m ws) k h))

-- ---- a caller who goes on comes to the end: of a piece that is not empty some are taken; and all that one call takes, where no command is complete

some-played : (u : Sgb) (l : List ℕ) → 1 ≤ length l → 1 ≤ (played u l).at
some-played u [] h = absurd (omega arith)
some-played u (v ∷ vs) h = played-some u v vs

pub call-goes_on : (b buffer ws : List ℕ) → valid b ≡ true → store_bytes ≤ length buffer → 1 ≤ length ws → 1 ≤ (taken_of (play_answer b ws buffer)).writes
call-goes_on b buffer ws k h any =
    subst⁻¹ (λ (t : Taken). 1 ≤ t.writes) (call-takes b buffer ws k h)
    (some-played (load b) (take play_most ws) (unfold play_most in omega (arith, length-take play_most ws)))

none-answered : (o : Option (List ℕ)) → packets_answered o ≡ none → o ≡ none
unfolding packets_answered
none-answered none e = refl
none-answered (some d) e = absurd (subst IsSome e tt)

pub call_takes_all : (b buffer ws : List ℕ) → valid b ≡ true → store_bytes ≤ length buffer → (taken_of (play_answer b ws buffer)).packets ≡ none
    → (taken_of (play_answer b ws buffer)).writes ≡ length (take play_most ws)
call_takes_all b buffer ws k h e =
    let t = call-takes b buffer ws k h in
    ap (λ (a : Taken). a.writes) t ∙ played_all (load b) (take play_most ws) (none-answered _ (sym (ap (λ (a : Taken). a.packets) t) ∙ e))
