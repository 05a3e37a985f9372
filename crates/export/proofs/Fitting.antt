-- Every number that a call answers leaves the low byte of what crosses free: a mask mode, 256, 57,344, at most 1,820 writes, 5,760; and so do
-- the writes that one call takes, with the packets of a command, and those of a line.
use Prim.Native.Nat.{ℕ, suc, ◌*◌, ◌^◌, ◌<◌, ◌≤◌}
use native.Mathlib.Nat.{pow-suc, lt_of_lt_of_le}
use native.Mathlib.Omega.{arith}
use mathlib.Core.Path.{◌≡◌}
use mathlib.Core.Bool.{Bool, true, false, cond}
use mathlib.Core.List.{List, [], ◌∷◌}
use mathlib.Core.Option.{Option, none, some}
use borrow.Author.Tests.{leb-true}
use lib.Dec.{eqb, ltb, leb, lit<, lit≤}
use lib.ListN.{length, get_or, take, length-take}
use Rattle.bits.proofs.Tests.{either}
use Rattle.receiver.proofs.Sound.{count-few}
use Rattle.pulses.specs.Answer.{Answer}
use Rattle.pulses.specs.Bytes.{packets_in, malformed}
use Rattle.pulses.specs.Encode.{encoding, short}
use Rattle.parts.specs.Parts.{block_bytes, store_bytes, capture_bytes}
use Rattle.layout.specs.Block.{load}
use Rattle.layout.specs.Sgb.{Sgb}
use Rattle.layout.specs.Valid.{valid}
use Rattle.layout.proofs.Goods.{valid-good}
use Rattle.view.specs.Refusal.{refusing}
use Rattle.block_picture.specs.Drawn.{parts_of}
use Rattle.state_spans.specs.State.{presence}
use Rattle.state_spans.specs.Going.{Lent, roomy, to_answer}
use Rattle.view.specs.Looks.{mode_of, row_answer, picture_answer}
use Rattle.transfer.specs.Page.{page_bytes}
use Rattle.pages.specs.Pixels.{page_screen_answer}
use Rattle.hex_digits.specs.Hex.{bytes_of}
use Rattle.log_line.specs.Line.{Meaning, by_kind, by_bytes, meaning_of}
use Rattle.log_line.specs.Calls.{meaning_told, line_answer}
use Rattle.rules.proofs.Keeps.{WholeIf}
use Rattle.block_port.specs.Bytes.{packets_told}
use Rattle.block_writes.specs.Play.{played}
use Rattle.block_writes.proofs.Plays.{kept-played}
use Rattle.unit.specs.Calls.{packets_answered, with_room}
use Rattle.unit.specs.Plays.{play_most, played_by, play_answer}
use Rattle.unit.proofs.Pieces.{played-few}
use Rattle.export_answers.specs.Coded.{packets_number, Fits, RunFits, ContentFits}

refusing-fits : (b : List ℕ) (a : Answer ℕ) → (valid b ≡ true → Fits a) → Fits (refusing b a)
unfolding refusing Fits
refusing-fits b a f = either Fits (eqb (length b) block_bytes) (λ _. either Fits (valid b) f (λ _. tt)) (λ _. tt)

pub mode-fits : (b : List ℕ) → Fits (mode_of b)
unfolding mode_of parts_of Fits
mode-fits b = refusing-fits b _ (λ v. let m = (valid-good b v).game.mask in omega arith)

pub row_fits : (b : List ℕ) (y : ℕ) (out : List ℕ) → Fits (row_answer b y out)
unfolding row_answer Fits
row_fits b y out =
    refusing-fits b _
    (λ _. either Fits (ltb y 224) (λ _. either Fits (leb 256 (length out)) (λ _. lit< tt) (λ _. tt)) (λ _. tt))

pub picture-fits : (b out : List ℕ) → Fits (picture_answer b out)
unfolding picture_answer Fits
picture-fits b out = refusing-fits b _ (λ _. either Fits (leb 57344 (length out)) (λ _. lit< tt) (λ _. tt))

pub encoding-fits : (c : List ℕ) (room : ℕ) → Fits (encoding c room)
unfolding encoding packets_in Fits
encoding-fits c room =
    either Fits (malformed c) (λ _. tt)
    (λ _. either Fits (short c room) (λ _. tt) (λ _. let f = count-few (get_or c 0 0) in omega arith))

pub page-screen-fits : (page out : List ℕ) → Fits (page_screen_answer page out)
unfolding page_screen_answer Fits
page-screen-fits page out =
    either Fits (eqb (length page) page_bytes) (λ _. either Fits (leb capture_bytes (length out)) (λ _. lit< tt) (λ _. tt)) (λ _. tt)

-- ---- writes in a row, and a line

packets-few : (o : Option (List ℕ)) → WholeIf o → packets_number (packets_answered o) < 8
unfolding packets_number packets_answered packets_told
packets-few none w = lit< tt
packets-few (some d) w = omega (arith, w.most)

few-taken : (u : Sgb) (ws : List ℕ) → (played u (take play_most ws)).at ≤ 1048576
unfolding play_most
few-taken u ws = omega (arith, played-few u (take play_most ws), length-take play_most ws)

pub play-fits : (b ws command : List ℕ) → RunFits (play_answer b ws command)
unfolding play_answer with_room refusing RunFits
play-fits b ws command =
    either RunFits (eqb (length b) block_bytes)
    (λ _. either RunFits (valid b)
    (λ v. either RunFits (leb store_bytes (length command))
    (λ _. (few-taken (load b) ws, packets-few (played_by b ws).told (kept-played (load b) (take play_most ws) (valid-good b v)).whole))
    (λ _. tt)) (λ _. tt)) (λ _. tt)

LineFits : Meaning → Type 0
LineFits m = ContentFits (meaning_told m)

kind_fits : (l : List ℕ) → LineFits (by_kind l)
unfolding LineFits by_kind meaning_told ContentFits
kind_fits [] = tt
kind_fits (k ∷ d) =
    either LineFits (eqb k 1) (λ _. either LineFits (leb (length d) capture_bytes) (λ h. leb-true (length d) capture_bytes h) (λ _. tt))
    (λ _. either LineFits (eqb k 2) (λ _. either LineFits (eqb (length d) capture_bytes) (λ _. tt) (λ _. tt)) (λ _. tt))

bytes_fit : (o : Option (List ℕ)) → LineFits (by_bytes o)
unfolding by_bytes
bytes_fit none = unfold LineFits meaning_told ContentFits in tt
bytes_fit (some l) = kind_fits l

pub line-fits : (text bytes : List ℕ) → ContentFits (line_answer text bytes)
unfolding line_answer meaning_of LineFits
line-fits text bytes = either ContentFits (leb capture_bytes (length bytes)) (λ _. bytes_fit (bytes_of text)) (λ _. unfold ContentFits in tt)

-- ---- which spans a state has

presence-small : (ts : List Bool) → presence ts < 2 ^ length ts
unfolding presence
presence-small [] = lit< tt
presence-small (t ∷ ts) =
    let e : 2 ^ suc (length ts) ≡ 2 ^ length ts * 2 = pow-suc 2 (length ts) in
    omega (arith, presence-small ts, flag-few t)
  where
    flag-few : (u : Bool) → cond u 1 0 < 2
    flag-few true = lit< tt
    flag-few false = lit< tt

pub to-fits : (b : List ℕ) (l : Lent) → Fits (to_answer b l)
unfolding to_answer Fits
to-fits b l =
    refusing-fits b _
    (λ _. either Fits (roomy l) (λ _. lt_of_lt_of_le (presence-small _) (lit≤ tt)) (λ _. tt))
