-- Different answers give different numbers: what crosses to C tells the answer whole. A refusal's number is from 1 to 26 and stands in the
-- low byte, where a value leaves 0 and "none" is 128; an offset stands above it.
use Prim.Native.Nat.{ℕ, ◌+◌, ◌*◌, ◌/◌, ◌%◌, ◌≤◌, ◌<◌}
use native.Mathlib.Omega.{arith}
use mathlib.Core.Path.{◌≡◌, refl, sym, ap, ◌∙◌}
use mathlib.Core.Bool.{Bool, true, false, ◌&&◌, cond}
use mathlib.Core.List.{List}
use mathlib.Core.Logic.{◌⊎◌, inl, inr, ⊎_elim}
use mathlib.Core.Option.{Option, none, some}
use lib.Dec.{eqb, ltb, leb, lit≤}
use lib.ListN.{length, take}
use Rattle.bits.specs.Determined.{Once}
use Rattle.bits.proofs.Tests.{either}
use Rattle.colour.specs.declared.Rgb8.{Rgb8}
use Rattle.pulses.specs.Answer.{Answer, refused, given}
use Rattle.pulses.specs.Bytes.{malformed}
use Rattle.pulses.specs.Encode.{encoding, short}
use Rattle.pulses.specs.Verdict.{judged}
use Rattle.parts.specs.Parts.{block_bytes, store_bytes, capture_bytes}
use Rattle.layout.specs.Valid.{valid}
use Rattle.broken.specs.Broken.{broken, broken_number}
use Rattle.broken.proofs.Numbers.{number_read}
use Rattle.view.specs.Refusal.{refusing}
use Rattle.view.proofs.Refusals.{parts-broken}
use Rattle.state_spans.specs.Going.{Lent, roomy, to_answer}
use Rattle.view.specs.Looks.{mode_of, backdrop_answer, shade_answer, entry_answer, border_answer, row_answer, picture_answer}
use Rattle.unit.specs.Calls.{packets_answered, with_room, write_answer, screen_answer}
use Rattle.rules.proofs.Keeps.{WholeIf}
use Rattle.layout.specs.Block.{load}
use Rattle.layout.proofs.Goods.{valid-good}
use Rattle.block_port.specs.Bytes.{packets_told}
use Rattle.block_writes.proofs.Plays.{kept-played}
use Rattle.unit.specs.Plays.{play_most, played_by, Taken, play_answer}
use Rattle.transfer.specs.Page.{page_bytes}
use Rattle.pages.specs.Pixels.{page_screen_answer}
use Rattle.log_line.specs.Line.{Meaning, writes, screen, meaning_of}
use Rattle.log_line.specs.Line.{refused as noLine}
use Rattle.log_line.specs.Calls.{Content, writes_of, one_screen, meaning_told, line_answer}
use Rattle.export_answers.specs.Coded.{coded, value, optional, truth, packets_number, run, content, RunFits}
use Rattle.export.proofs.Fitting.{play-fits}
use Rattle.export.specs.Parts.{rgb_number}

-- ---- a code of values that stays clear of the refusals

abbrev Clear : {A : Type 0} → (A → ℕ) → Type 0
Clear {A} code = (x : A) → (code x % 256 ≡ 0) ⊎ (code x % 256 ≡ 128)

unfoldable pub Numbered : {A : Type 0} → Answer A → Type 0
Numbered (refused n) = (1 ≤ n % 256) × (n % 256 ≤ 26)
Numbered (given a) = Unit {0}

pub coded_once : {A : Type 0} (code : A → ℕ) → Once code → Clear code → (a b : Answer A) → Numbered a → Numbered b → coded code a ≡ coded code b → a ≡ b
unfolding coded Numbered
coded_once code once clear (refused m) (refused n) p q e = ap refused e
coded_once code once clear (refused m) (given y) p q e = absurd (⊎_elim (λ z. omega arith) (λ z. omega arith) (clear y))
coded_once code once clear (given x) (refused n) p q e = absurd (⊎_elim (λ z. omega arith) (λ z. omega arith) (clear x))
coded_once code once clear (given x) (given y) p q e = ap given (once x y e)

-- ---- each of the codes is one

value_once : Once value
value_once x y e = omega arith

value-clear : Clear value
value-clear x = inl (omega arith)

pub optional_once : Once optional
unfolding optional
optional_once none none e = refl
optional_once none (some y) e = absurd (omega arith)
optional_once (some x) none e = absurd (omega arith)
optional_once (some x) (some y) e = ap some (value_once x y e)

optional-clear : Clear optional
unfolding optional
optional-clear none = inr refl
optional-clear (some x) = value-clear x

truth_once : Once truth
unfolding truth
truth_once true true e = refl
truth_once true false e = absurd (omega arith)
truth_once false true e = absurd (omega arith)
truth_once false false e = refl

truth-clear : Clear truth
unfolding truth
truth-clear b = value-clear (cond b 1 0)

-- ---- the answers of the calls, by what they give

pub optional-apart : (a b : Answer (Option ℕ)) → Numbered a → Numbered b → coded optional a ≡ coded optional b → a ≡ b
optional-apart = coded_once optional optional_once optional-clear

pub value-apart : (a b : Answer ℕ) → Numbered a → Numbered b → coded value a ≡ coded value b → a ≡ b
value-apart = coded_once value value_once value-clear

pub truth-apart : (a b : Answer Bool) → Numbered a → Numbered b → coded truth a ≡ coded truth b → a ≡ b
truth-apart = coded_once truth truth_once truth-clear

-- a colour of three bytes
pub rgb-apart : (c d : Rgb8) → c.g < 256 → c.b < 256 → d.g < 256 → d.b < 256 → value (rgb_number c) ≡ value (rgb_number d) → c ≡ d
rgb-apart c d p q s t e =
    let x : c.r ≡ d.r = omega arith in
    let y : c.g ≡ d.g = omega arith in
    let z : c.b ≡ d.b = omega arith in
    λ i. record { r = x i; g = y i; b = z i }

-- ---- two numbers in one: writes with a command's packets, and the bytes of a line with its kind

-- none is told apart from a command, which has one packet at least
unfoldable pub Completes : Option ℕ → Type 0
Completes none = Unit {0}
Completes (some n) = 1 ≤ n

packets_once : (a b : Option ℕ) → Completes a → Completes b → packets_number a ≡ packets_number b → a ≡ b
unfolding Completes packets_number
packets_once none none f g e = refl
packets_once none (some n) f g e = absurd (omega arith)
packets_once (some m) none f g e = absurd (omega arith)
packets_once (some m) (some n) f g e = ap some e

-- the one above, the other below 8
eighths_of : (m p n q : ℕ) → p < 8 → q < 8 → 8 * m + p ≡ 8 * n + q → (m ≡ n) × (p ≡ q)
eighths_of m p n q f g e =
    let x : (8 * m + p) / 8 ≡ m = omega arith in
    let y : (8 * n + q) / 8 ≡ n = omega arith in
    let z : m ≡ n = sym x ∙ ap (λ (k : ℕ). k / 8) e ∙ y in
    (z, omega arith)

run_of : (t u : Taken) → packets_number t.packets < 8 → packets_number u.packets < 8 → run t ≡ run u
    → (t.writes ≡ u.writes) × (packets_number t.packets ≡ packets_number u.packets)
unfolding run
run_of t u p q e = eighths_of t.writes (packets_number t.packets) u.writes (packets_number u.packets) p q (value_once _ _ e)

run-clear : Clear run
unfolding run
run-clear t = value-clear (8 * t.writes + packets_number t.packets)

-- a command has a packet at least
pub run-apart : (t u : Taken) → packets_number t.packets < 8 → packets_number u.packets < 8 → Completes t.packets → Completes u.packets → run t ≡ run u → t ≡ u
run-apart t u p q f g e =
    let k = run_of t u p q e in
    let l = packets_once t.packets u.packets f g k.1 in
    λ i. record { writes = k.0 i; packets = l i }

pub content_once : Once content
unfolding content
content_once (writes_of m) (writes_of n) e = let k : m ≡ n = omega arith in ap writes_of k
content_once (writes_of m) one_screen e = absurd (omega arith)
content_once one_screen (writes_of n) e = absurd (omega arith)
content_once one_screen one_screen e = refl

content-clear : Clear content
unfolding content
content-clear (writes_of n) = value-clear (8 * n + 1)
content-clear one_screen = value-clear (8 * capture_bytes + 2)

pub content-apart : (a b : Answer Content) → Numbered a → Numbered b → coded content a ≡ coded content b → a ≡ b
content-apart = coded_once content content_once content-clear

-- ---- and every refusal that a call gives has such a number

refused-numbered : (A : Type 0) (n : ℕ) → 1 ≤ n → n ≤ 26 → Numbered {A = A} (refused n)
unfolding Numbered
refused-numbered A n p q = (omega arith, omega arith)

test-numbered : {A : Type 0} (t : Bool) (a : Answer A) (n : ℕ) → Numbered a → 1 ≤ n → n ≤ 26 → Numbered (cond t a (refused n))
test-numbered {A} t a n f p q = either Numbered t (λ _. f) (λ _. refused-numbered A n p q)

given-numbered : {A : Type 0} (a : A) → Numbered (given a)
unfolding Numbered
given-numbered a = tt

broken-numbered : (A : Type 0) (b : List ℕ) → eqb (length b) block_bytes ≡ true → valid b ≡ false → Numbered {A = A} (refused (broken_number (broken b)))
unfolding Numbered
broken-numbered A b l v = let k = (number_read b (parts-broken b l v)).low in (omega arith, k.1)

refusing-numbered : {A : Type 0} (b : List ℕ) (a : Answer A) → Numbered a → Numbered (refusing b a)
unfolding refusing
refusing-numbered {A} b a f =
    either Numbered (eqb (length b) block_bytes) (λ l. either Numbered (valid b) (λ _. f) (λ v. broken-numbered A b l v)) (λ _. refused-numbered _ 1 (lit≤ tt) (lit≤ tt))

pub write-numbered : (b : List ℕ) (v : ℕ) (command : List ℕ) → Numbered (write_answer b v command)
unfolding write_answer with_room
write-numbered b v command = refusing-numbered b _ (test-numbered (leb store_bytes (length command)) _ 6 (given-numbered _) (lit≤ tt) (lit≤ tt))

pub screen-numbered : (b x : List ℕ) → Numbered (screen_answer b x)
unfolding screen_answer
screen-numbered b x = refusing-numbered b _ (test-numbered (eqb (length x) capture_bytes) _ 3 (given-numbered _) (lit≤ tt) (lit≤ tt))

pub mode-numbered : (b : List ℕ) → Numbered (mode_of b)
unfolding mode_of
mode-numbered b = refusing-numbered b _ (given-numbered _)

pub backdrop-numbered : (b : List ℕ) → Numbered (backdrop_answer b)
unfolding backdrop_answer
backdrop-numbered b = refusing-numbered b _ (given-numbered _)

pub shade-numbered : (b : List ℕ) (x y shade : ℕ) → Numbered (shade_answer b x y shade)
unfolding shade_answer
shade-numbered b x y shade = refusing-numbered b _ (test-numbered (ltb x 160 && (ltb y 144 && leb shade 3)) _ 4 (given-numbered _) (lit≤ tt) (lit≤ tt))

pub entry-numbered : (b : List ℕ) (column row : ℕ) → Numbered (entry_answer b column row)
unfolding entry_answer
entry-numbered b column row = refusing-numbered b _ (test-numbered (ltb column 32 && ltb row 28) _ 4 (given-numbered _) (lit≤ tt) (lit≤ tt))

pub border-numbered : (b : List ℕ) (x y : ℕ) → Numbered (border_answer b x y)
unfolding border_answer
border-numbered b x y = refusing-numbered b _ (test-numbered (ltb x 256 && ltb y 224) _ 4 (given-numbered _) (lit≤ tt) (lit≤ tt))

pub row-numbered : (b : List ℕ) (y : ℕ) (out : List ℕ) → Numbered (row_answer b y out)
unfolding row_answer
row-numbered b y out =
    refusing-numbered b _ (test-numbered (ltb y 224) _ 4 (test-numbered (leb 256 (length out)) _ 6 (given-numbered _) (lit≤ tt) (lit≤ tt)) (lit≤ tt) (lit≤ tt))

pub picture-numbered : (b out : List ℕ) → Numbered (picture_answer b out)
unfolding picture_answer
picture-numbered b out = refusing-numbered b _ (test-numbered (leb 57344 (length out)) _ 6 (given-numbered _) (lit≤ tt) (lit≤ tt))

pub encoding-numbered : (c : List ℕ) (room : ℕ) → Numbered (encoding c room)
unfolding encoding
encoding-numbered c room =
    either Numbered (malformed c) (λ _. refused-numbered _ 5 (lit≤ tt) (lit≤ tt))
    (λ _. either Numbered (short c room) (λ _. refused-numbered _ 6 (lit≤ tt) (lit≤ tt)) (λ _. given-numbered _))

pub verdict-numbered : (c : List ℕ) → Numbered (judged c)
unfolding judged
verdict-numbered c = either Numbered (malformed c) (λ _. refused-numbered _ 5 (lit≤ tt) (lit≤ tt)) (λ _. given-numbered _)

pub page-screen-numbered : (page out : List ℕ) → Numbered (page_screen_answer page out)
unfolding page_screen_answer
page-screen-numbered page out =
    test-numbered (eqb (length page) page_bytes) _ 10
    (test-numbered (leb capture_bytes (length out)) _ 6 (given-numbered _) (lit≤ tt) (lit≤ tt)) (lit≤ tt) (lit≤ tt)

pub play-numbered : (b ws command : List ℕ) → Numbered (play_answer b ws command)
unfolding play_answer with_room
play-numbered b ws command = refusing-numbered b _ (test-numbered (leb store_bytes (length command)) _ 6 (given-numbered _) (lit≤ tt) (lit≤ tt))

meaning-numbered : (m : Meaning) → Numbered (meaning_told m)
unfolding meaning_told
meaning-numbered (writes ws) = given-numbered _
meaning-numbered (screen d) = given-numbered _
meaning-numbered noLine = refused-numbered _ 7 (lit≤ tt) (lit≤ tt)

pub line-numbered : (text bytes : List ℕ) → Numbered (line_answer text bytes)
unfolding line_answer
line-numbered text bytes = test-numbered (leb capture_bytes (length bytes)) _ 6 (meaning-numbered (meaning_of text)) (lit≤ tt) (lit≤ tt)

pub to-numbered : (b : List ℕ) (l : Lent) → Numbered (to_answer b l)
unfolding to_answer
to-numbered b l = refusing-numbered b _ (test-numbered (roomy l) _ 6 (given-numbered _) (lit≤ tt) (lit≤ tt))

-- ---- what `play` answers is told whole

packets-some : (o : Option (List ℕ)) → WholeIf o → Completes (packets_answered o)
unfolding Completes packets_answered packets_told
packets-some none w = tt
packets-some (some d) w = omega (arith, w.least)

unfoldable pub Tells : Answer Taken → Type 0
Tells (refused n) = Unit {0}
Tells (given t) = Completes t.packets

play-tells : (b ws command : List ℕ) → Tells (play_answer b ws command)
unfolding play_answer with_room refusing Tells
play-tells b ws command =
    either Tells (eqb (length b) block_bytes)
    (λ _.
    either Tells (valid b)
    (λ v.
    either Tells (leb store_bytes (length command))
    (λ _. packets-some (played_by b ws).told (kept-played (load b) (take play_most ws) (valid-good b v)).whole) (λ _. tt)) (λ _. tt)) (λ _. tt)

told_once : (a b : Answer Taken) → Numbered a → Numbered b → RunFits a → RunFits b → Tells a → Tells b → coded run a ≡ coded run b → a ≡ b
unfolding coded Numbered RunFits Tells
told_once (refused m) (refused n) p q f g s t e = ap refused e
told_once (refused m) (given y) p q f g s t e = absurd (⊎_elim (λ z. omega arith) (λ z. omega arith) (run-clear y))
told_once (given x) (refused n) p q f g s t e = absurd (⊎_elim (λ z. omega arith) (λ z. omega arith) (run-clear x))
told_once (given x) (given y) p q f g s t e = ap given (run-apart x y f.1 g.1 s t e)

pub play-apart : (b ws command b' ws' command' : List ℕ) → coded run (play_answer b ws command) ≡ coded run (play_answer b' ws' command')
    → play_answer b ws command ≡ play_answer b' ws' command'
play-apart b ws command b' ws' command' =
    told_once (play_answer b ws command) (play_answer b' ws' command') (play-numbered b ws command) (play-numbered b' ws' command')
    (play-fits b ws command) (play-fits b' ws' command') (play-tells b ws command) (play-tells b' ws' command')
