-- What the code answers is the step.
use mathlib.Core.Path.{◌≡◌, refl, sym, ap, ap₂, ◌∙◌, subst}
use mathlib.Core.List.{List, [], ◌∷◌, ◌++◌, append-nil}
use Prim.Native.Nat.{ℕ, ◌+◌, ◌-◌, ◌*◌, ◌≤◌, ◌<◌}
use native.Mathlib.Omega.{arith}
use lib.ListN.{length, take, drop, length-take, take-append-drop, drop_of_length-le}
use Rattle.layout.specs.Block.{load}
use Rattle.block_port.specs.Bytes.{packets_some, handed}
use Rattle.block_writes.specs.Play.{played}
use Rattle.layout.specs.Block.{save}
use Rattle.bits.specs.Answer.{given}
use Rattle.bits.specs.Answer.{refused as refusal}
use Rattle.rules.specs.Screen.{screened}
use Rattle.bits.proofs.Overs.{over_all}
use Rattle.parts.specs.Parts.{capture_bytes}
use Rattle.log_line.specs.Line.{Meaning, writes, screen, refused, meaning_of}
use Rattle.log_line.specs.Lines.{meaning_marked}
use Rattle.log_line.specs.Split.{held_as}
use Rattle.log_line.specs.Calls.{writes_of, one_screen, line_told, meaning_told, filled, line_answer, line_bytes}
use Rattle.log_line.proofs.Splitting.{held-long, held-means}
use borrow.Author.Tests.{le-leb, lt-leb, leb-true, leb-false}
use lib.Dec.{leb, ltb}
use mathlib.Core.Bool.{Bool, true, false, not, ◌&&◌, true≢false}
use Rattle.bits.proofs.Tests.{and_left, and_right}
use Rattle.bits.specs.Over.{over}
use Rattle.log_text.specs.Text.{hex_line, refusal_text, row_line}
use Rattle.log_text.proofs.Printed.{length-hex_line, length-row_line}
use Rattle.bits.proofs.Tabs.{length-tab}
use Rattle.picture.specs.Picture.{pixel_at, row_of}
use Rattle.block_picture.specs.Drawn.{parts_of, row_drawn}
use Rattle.log_chunks.specs.Events.{Event, completed}
use Rattle.log_chunks.specs.Events.{refusal as refused-line}
use Rattle.log_chunks.specs.Texts.{shown_one, shown, head_bytes, head_line}
use Rattle.log_chunks.proofs.Takes.{Fits, fits_line}
use Rattle.log_chunks.proofs.Keeps.{filled-long}
use Rattle.log_line.specs.declared.Line.{Line}
use Rattle.log_line.specs.declared.Line.TheVariants as L
use Rattle.log_line.specs.declared.lines.Held.TheVariants as H
use Rattle.refusal.specs.declared.Refusal.{Refusal}
use Rattle.refusal.specs.Codes.{code_of}
use Rattle.std.specs.Prelude as code
use Rattle.std.specs.Prelude.{Result, Ok, Err}
use Rattle.log_chunks.specs.Steps.{Desk, desk, pending, told_of, ran_on, played_to, answer_of, next_line, ended_as, ended, told_by, ToldFits, goes_on, step_room, left}
use Rattle.log_reading.specs.declared.Reading.{Reading}
use Rattle.log_chunks.specs.declared.Step.{Step}
use Rattle.log_chunks.specs.declared.Told.{Told}
use Rattle.log_chunks.specs.declared.Told.TheVariants.{Nothing, Command, Refused}
use Rattle.log_chunks.proofs.Keeps.{at_most}

-- ---- the decoded writes

module _ (r : Reading) (d : Desk) (at : ℕ) where
  abbrev ws : List ℕ
  ws = take (r.upto - r.from) (drop r.from d.bytes)

  pub played-within : (n : ℕ) → r.from ≤ r.upto → r.upto ≤ capture_bytes → n ≡ (played (load d.block) ws).at → r.from + n ≤ capture_bytes
  played-within n h k e = let l : length ws ≤ r.upto - r.from = simp length-take (omega arith) in omega (arith, at_most (load d.block) ws)

  pub played-answer : (n : ℕ) (packets : code.Option ℕ) (t : Told) → n ≡ (played (load d.block) ws).at → packets ≡ packets_some (played (load d.block) ws).told → t ≡ told_of packets
      → ◌≡◌ {A = Step} (record { reading = record { held = r.held; number = r.number; from = r.from + n; upto = r.upto }; at = at; told = t }) (answer_of (ran_on r d at))
  unfolding ran_on played_to pending
  played-answer n packets t e f g =
      ap₂ (λ (m : ℕ) (u : Told). record { reading = record { held = r.held; number = r.number; from = r.from + m; upto = r.upto }; at = at; told = u }) e (g ∙ ap told_of f)

  pub played-desk : (block command : List ℕ) → block ≡ save (played (load d.block) ws).unit → command ≡ handed (played (load d.block) ws).told d.command
      → desk block d.line d.bytes command ≡ (ran_on r d at).desk
  unfolding ran_on played_to pending
  played-desk block command e f = ap₂ (λ (b c : List ℕ). desk b d.line d.bytes c) e f

-- ---- a line that has ended

module _ (r : Reading) (d : Desk) (at : ℕ) where
  abbrev pub behind : ℕ → Told → Step
  behind n t = record { reading = next_line r n; at = at; told = t }

  -- the buffers with the line's bytes
  abbrev pub decoded : List ℕ → Desk
  decoded bytes = desk d.block d.line bytes d.command

  -- what the code leaves, by the line's meaning
  pub record Ends (m : Meaning) (answer : Step) (e : Desk) : Type 0 where
    pub answers : answer ≡ answer_of (ended_as m r d at)
    pub desks : e ≡ (ended_as m r d at).desk

  pub ends-refused : (m : Meaning) (n : ℕ) (bytes : List ℕ) → refusal n ≡ meaning_told m → bytes ≡ filled m d.bytes → Ends m (behind 0 Refused) (decoded bytes)
  unfolding meaning_told filled ended_as
  ends-refused (writes ws) n bytes e f = let z : ◌≡◌ {A = ℕ} 0 1 = cc in absurd (omega arith)
  ends-refused (screen x) n bytes e f = let z : ◌≡◌ {A = ℕ} 0 1 = cc in absurd (omega arith)
  ends-refused refused n bytes e f = record { answers = refl; desks = ap decoded f }

  pub ends-writes : (m : Meaning) (n : ℕ) (bytes : List ℕ) → given (writes_of n) ≡ meaning_told m → bytes ≡ filled m d.bytes → Ends m (behind n Nothing) (decoded bytes)
  unfolding meaning_told filled ended_as
  ends-writes (writes ws) n bytes e f = let k : n ≡ length ws = cc in record { answers = ap (λ (i : ℕ). behind i Nothing) k; desks = ap decoded f }
  ends-writes (screen x) n bytes e f = let z : ◌≡◌ {A = ℕ} 0 1 = cc in absurd (omega arith)
  ends-writes refused n bytes e f = let z : ◌≡◌ {A = ℕ} 0 1 = cc in absurd (omega arith)

  pub ends-screen : (m : Meaning) (bytes block : List ℕ) → Fits m → length d.bytes ≡ capture_bytes → given one_screen ≡ meaning_told m → bytes ≡ filled m d.bytes
      → block ≡ save (screened (load d.block) bytes) → Ends m (behind 0 Nothing) (desk block d.line bytes d.command)
  unfolding meaning_told filled ended_as Fits
  ends-screen (writes ws) bytes block g l e f h = let z : ◌≡◌ {A = ℕ} 0 1 = cc in absurd (omega arith)
  ends-screen (screen x) bytes block g l e f h =
      let k : bytes ≡ x = f ∙ over_all (length x) x d.bytes (l ∙ sym g) in
      record { answers = refl; desks = ap₂ (λ (b y : List ℕ). desk b d.line y d.command) (h ∙ ap (λ (y : List ℕ). save (screened (load d.block) y)) k) f }
  ends-screen refused bytes block g l e f h = let z : ◌≡◌ {A = ℕ} 0 1 = cc in absurd (omega arith)

-- which line it is that ended
module _ (r : Reading) (d : Desk) (at : ℕ) (answer : Step) (e : Desk) where
  abbrev pub Told·Ended : Type 0
  Told·Ended = (answer ≡ answer_of (ended r d at)) × (e ≡ (ended r d at).desk)

  ended-as : (m : Meaning) → meaning_marked (held_as r.held d.line) ≡ m → Ends r d at m answer e → Told·Ended
  unfolding ended
  ended-as m h k = rw h (k.answers, k.desks)

  pub ended-long : r.held ≡ H.Long → answer ≡ behind r d at 0 Refused → e ≡ d → Told·Ended
  unfolding ended_as
  ended-long h k y = ended-as refused (rw h (held-long d.line)) (record { answers = k; desks = y })

  pub ended-parsed : (n : ℕ) → r.held ≡ H.Bytes n → (a : Step) → answer ≡ a → Ends r d at (meaning_of (take n d.line)) a e → Told·Ended
  ended-parsed n h a k z = ended-as (meaning_of (take n d.line)) (rw h (held-means n d.line)) (record { answers = k ∙ z.answers; desks = z.desks })

-- the buffer is long enough for any line
pub parse-told : (text bytes : List ℕ) → length bytes ≡ capture_bytes → (line_answer text bytes ≡ meaning_told (meaning_of text)) × (line_bytes text bytes ≡ filled (meaning_of text) bytes)
unfolding line_answer line_bytes
parse-told text bytes h = let e : leb capture_bytes (length bytes) ≡ true = le-leb capture_bytes (length bytes) (omega arith) in (rw e refl, rw e refl)

-- the answer of `parse`, by its case
module _ (r : Reading) (d : Desk) (at : ℕ) (n : ℕ) (short : r.held ≡ H.Bytes n) (long : length d.bytes ≡ capture_bytes) (m : Result Line Refusal) (bytes : List ℕ)
    (told : line_told m ≡ line_answer (take n d.line) d.bytes) (left_in : bytes ≡ line_bytes (take n d.line) d.bytes) (answer : Step) where
  abbrev M : Meaning
  M = meaning_of (take n d.line)

  told_is : line_told m ≡ meaning_told M
  told_is = told ∙ (parse-told (take n d.line) d.bytes long).0

  left_is : bytes ≡ filled M d.bytes
  left_is = left_in ∙ (parse-told (take n d.line) d.bytes long).1

  pub parsed-refused : (k : Refusal) → m ≡ Err k → answer ≡ behind r d at 0 Refused → Told·Ended r d at answer (decoded r d at bytes)
  unfolding line_told
  parsed-refused k e a = ended-parsed r d at answer (decoded r d at bytes) n short (behind r d at 0 Refused) a (ends-refused r d at M (code_of k) bytes (ap line_told (sym e) ∙ told_is) left_is)

  pub parsed-writes : (k : ℕ) → m ≡ Ok (L.Writes k) → answer ≡ behind r d at k Nothing → Told·Ended r d at answer (decoded r d at bytes)
  unfolding line_told
  parsed-writes k e a = ended-parsed r d at answer (decoded r d at bytes) n short (behind r d at k Nothing) a (ends-writes r d at M k bytes (ap line_told (sym e) ∙ told_is) left_is)

  pub parsed-screen : (block : List ℕ) → m ≡ Ok L.Screen → block ≡ save (screened (load d.block) bytes) → answer ≡ behind r d at 0 Nothing
      → Told·Ended r d at answer (desk block d.line bytes d.command)
  unfolding line_told
  parsed-screen block e h a = ended-parsed r d at answer (desk block d.line bytes d.command) n short (behind r d at 0 Nothing) a (ends-screen r d at M bytes block (fits_line (take n d.line)) long (ap line_told (sym e) ∙ told_is) left_is h)

-- a screen that a line has is as long as the buffer
pub bytes_long : (text bytes b : List ℕ) → length b ≡ capture_bytes → bytes ≡ line_bytes text b → length bytes ≡ capture_bytes
bytes_long text bytes b h e = ap length (e ∙ (parse-told text b h).1) ∙ filled-long (meaning_of text) b (fits_line text) h

-- ---- text

pub shown-one : (e : Event) → shown (e ∷ []) ≡ shown_one e
unfolding shown
shown-one e = append-nil (shown_one e)

-- the text of what is told, put from `at` on
module _ (t : Told) (r : Reading) (command out m : List ℕ) (at n : ℕ) where
  abbrev text : List ℕ
  text = shown (told_by t r command)

  pub tells_as : (x : List ℕ) → x ≡ text → n ≡ length x → m ≡ over at (length x) x out → (n ≡ length text) × (m ≡ over at (length text) text out)
  tells_as x e l p = (l ∙ ap length e, p ∙ ap (λ (y : List ℕ). over at (length y) y out) e)

  pub tells-command : (k : ℕ) → t ≡ Command k → n ≡ length (hex_line (take (16 * k) command)) → m ≡ over at (length (hex_line (take (16 * k) command))) (hex_line (take (16 * k) command)) out
      → (n ≡ length text) × (m ≡ over at (length text) text out)
  tells-command k e l p =
      let x : hex_line (take (16 * k) command) ≡ shown (told_by (Command k) r command) = sym (unfold told_by shown_one in shown-one (completed (take (16 * k) command))) in
      tells_as (hex_line (take (16 * k) command)) (x ∙ ap (λ (u : Told). shown (told_by u r command)) (sym e)) l p

  pub tells-refused : t ≡ Refused → n ≡ length (refusal_text (r.number - 1)) → m ≡ over at (length (refusal_text (r.number - 1))) (refusal_text (r.number - 1)) out
      → (n ≡ length text) × (m ≡ over at (length text) text out)
  tells-refused e l p =
      let x : refusal_text (r.number - 1) ≡ shown (told_by Refused r command) = sym (unfold told_by shown_one in shown-one (refused-line (r.number - 1))) in
      tells_as (refusal_text (r.number - 1)) (x ∙ ap (λ (u : Told). shown (told_by u r command)) (sym e)) l p

  pub tells-nothing : t ≡ Nothing → n ≡ 0 → m ≡ out → (n ≡ length text) × (m ≡ over at (length text) text out)
  tells-nothing e l p =
      let x : [] ≡ shown (told_by Nothing r command) = (unfold told_by shown in refl) in
      tells_as [] (x ∙ ap (λ (u : Told). shown (told_by u r command)) (sym e)) l (p ∙ sym (take-append-drop at out))

-- a command that is told has few packets
pub told-few : (t : Told) (k : ℕ) → t ≡ Command k → ToldFits t → k < 8
unfolding ToldFits
told-few t k e f = subst ToldFits e f

-- a command's line is short
pub hex-short : (k : ℕ) (command : List ℕ) → k < 8 → length (hex_line (take (16 * k) command)) ≤ 225
hex-short k command h = omega (arith, length-hex_line (take (16 * k) command), length-take (16 * k) command)

-- ---- whether a fill goes on

module _ (over? : Bool) (written : ℕ) (r : Reading) (at size room : ℕ) where
  abbrev pub unstopped : Bool
  unstopped = not over? && leb (written + step_room) room

  -- the code's first two tests
  pub joined-yes : (v : Bool) → written ≤ room → not over? ≡ true → v ≡ leb step_room (room - written) → v ≡ unstopped
  joined-yes v h n e = go (leb (written + step_room) room) refl
    where
      go : (t : Bool) → leb (written + step_room) room ≡ t → v ≡ unstopped
      go true l = let k : written + step_room ≤ room = leb-true (written + step_room) room l in rw (n, l) (e ∙ le-leb step_room (room - written) (omega arith))
      go false l = let k : room < written + step_room = leb-false (written + step_room) room l in rw (n, l) (e ∙ lt-leb step_room (room - written) (omega arith))

  pub joined_no : (v : Bool) → not over? ≡ false → v ≡ not over? → v ≡ unstopped
  joined_no v n e = rw n (e ∙ n)

  pub goes-yes : (v t : Bool) → v ≡ unstopped → v ≡ true → t ≡ ltb 0 (left r size at) → t ≡ goes_on over? written r at size room
  unfolding goes_on
  goes-yes v t j y e =
      let both : unstopped ≡ true = sym j ∙ y in
      rw (and_left (not over?) (leb (written + step_room) room) both, and_right (not over?) (leb (written + step_room) room) both) e

  pub goes_no : (v : Bool) → v ≡ unstopped → v ≡ false → v ≡ goes_on over? written r at size room
  unfolding goes_on
  goes_no v j n = n ∙ go (not over?) (leb (written + step_room) room) (sym j ∙ n)
    where
      go : (a b : Bool) → (a && b) ≡ false → false ≡ (a && (b && ltb 0 (left r size at)))
      go true true e = sym e ∙ absurd (true≢false e)
      go true false e = refl
      go false b e = refl

-- ---- the closing line of `replay`, and a row of `plate`

pub head-short : (block : List ℕ) → length (head_line block) ≤ step_room
unfolding head_line
head-short block = omega (arith, length-hex_line (take head_bytes block), length-take head_bytes block)

pub row_words : (b : List ℕ) (y : ℕ) (words drawn : List ℕ) → length words ≡ 256 → drawn ≡ row_drawn b y words → drawn ≡ row_of (parts_of (load b)) y
unfolding row_drawn
row_words b y words drawn h e = e ∙ ap (λ (l : List ℕ). row_of (parts_of (load b)) y ++ l) (drop_of_length-le words {i = 256} (omega arith)) ∙ append-nil (row_of (parts_of (load b)) y)

pub row_text : (row drawn out out' : List ℕ) → drawn ≡ row → length row ≡ 256 → out' ≡ over 0 (length (row_line drawn)) (row_line drawn) out → out' ≡ over 0 1025 (row_line row) out
row_text row drawn out out' e h k = k ∙ ap (λ (w : List ℕ). over 0 (length (row_line w)) (row_line w) out) e ∙ ap (λ (n : ℕ). over 0 n (row_line row) out) (let l : length (row_line row) ≡ 1025 = omega (arith, length-row_line row) in l)

pub row-long : (b : List ℕ) (y : ℕ) → length (row_of (parts_of (load b)) y) ≡ 256
unfolding row_of
row-long b y = length-tab 256 (λ x. pixel_at (parts_of (load b)) x y)
