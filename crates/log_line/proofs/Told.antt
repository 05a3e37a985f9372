-- What `parse` answers and leaves, form by form (`answers-short`, ..); and what each answer means of the line (`parse-writes`, ..).
use Prim.Native.Nat.{ℕ, ◌-◌, ◌≤◌, ◌<◌}
use mathlib.Core.Bool.{Bool, true, false}
use lib.Dec.{eqb}
use Rattle.std.specs.Bool.{then_some}
use mathlib.Core.Path.{◌≡◌, refl, ap, sym, ◌∙◌}
use mathlib.Core.List.{List}
use native.Mathlib.Omega.{arith}
use borrow.Author.Tests.{le-leb, lt-leb, eqb-true, eqb-false}
use lib.ListN.{length, take, drop, length-drop}
use lib.Seq.{take_all, take_at}
use Rattle.bits.specs.Answer.{Answer, given}
use Rattle.bits.specs.Answer.{refused as refusal}
use Rattle.bits.specs.Over.{over}
use Rattle.hex_digits.specs.Hex.{spells, spelled}
use Rattle.parts.specs.Parts.{capture_bytes}
use Rattle.log_line.specs.Line.{line_digits, Meaning, writes, screen, refused, meaning_of}
use Rattle.log_line.specs.Calls.{Content, writes_of, one_screen, line_told, meaning_told, filled, line_answer, line_bytes, kind_told}
use Rattle.log_line.specs.declared.Line.TheVariants as L
use Rattle.log_line.specs.declared.Kind.{Kind}
use Rattle.log_line.specs.declared.Kind.TheVariants as K
use Rattle.refusal.specs.declared.Refusal.{Refusal}
use Rattle.refusal.specs.declared.Refusal.TheVariants as R
use Rattle.refusal.specs.Codes.{code_of}
use Rattle.std.specs.Prelude.{Some, None, Ok, Err}
use Rattle.log_line.proofs.Form.{kind_byte, a-screen, short-screen, Body, Read, is_refused, is_writes, is_screen, read}

-- ---- what the first byte tells of a line

-- what a kind makes of the bytes behind it
abbrev pub kind_means : Kind → List ℕ → Meaning
kind_means K.Writes d = writes d
kind_means K.Screen d = screen d

-- a line that is taken has a body, whose bytes have room where a screen has
pub record Taken (s : List ℕ) (k : Kind) : Type 0 where
  pub body : Body s
  pub fits : length (spelled (drop 2 s)) ≤ capture_bytes
  pub means : meaning_of s ≡ kind_means k (spelled (drop 2 s))

module _ (s : List ℕ) where
  pub kind-refused : None ≡ kind_told (meaning_of s) → meaning_of s ≡ refused
  unfolding kind_told
  kind-refused e = go (read s) where
    go : Read s → meaning_of s ≡ refused
    go (is_refused m) = m
    go (is_writes b l m) = let w : None ≡ Some K.Writes = e ∙ ap kind_told m in cc
    go (is_screen b l m) = let w : None ≡ Some K.Screen = e ∙ ap kind_told m in cc

  pub kind-taken : (k : Kind) → Some k ≡ kind_told (meaning_of s) → Taken s k
  unfolding kind_told
  kind-taken k e = go k e (read s) where
    go : (k : Kind) → Some k ≡ kind_told (meaning_of s) → Read s → Taken s k
    go k e (is_refused m) = let w : Some k ≡ None = e ∙ ap kind_told m in let z : ◌≡◌ {A = ℕ} 0 1 = cc in absurd (omega arith)
    go K.Writes e (is_writes b l m) = record { body = b; fits = l; means = m }
    go K.Screen e (is_writes b l m) = let w : Some K.Screen ≡ Some K.Writes = e ∙ ap kind_told m in let z : ◌≡◌ {A = ℕ} 0 1 = cc in absurd (omega arith)
    go K.Writes e (is_screen b l m) = let w : Some K.Writes ≡ Some K.Screen = e ∙ ap kind_told m in let z : ◌≡◌ {A = ℕ} 0 1 = cc in absurd (omega arith)
    go K.Screen e (is_screen b l m) = record { body = b; fits = omega arith; means = m }

  -- of a line whose first byte is 2, by its length
  pub screen-told : spells s ≡ true → 2 ≤ length s → kind_byte s ≡ 2 → kind_told (meaning_of s) ≡ then_some (eqb (length s) line_digits) K.Screen
  unfolding kind_told
  screen-told e h k = go (eqb (length s) line_digits) refl where
    go : (t : Bool) → eqb (length s) line_digits ≡ t → kind_told (meaning_of s) ≡ then_some t K.Screen
    go true l = ap kind_told (a-screen s e h k (eqb-true (length s) line_digits l))
    go false l = ap kind_told (short-screen s e h k (eqb-false (length s) line_digits l))

-- the line's bytes past the first, as the code lends them
pub past-kind : (s : List ℕ) → take (length s - 2) (drop 2 s) ≡ drop 2 s
past-kind s = take_all (length s - 2) (drop 2 s) (simp length-drop (omega arith))

-- ---- what `parse` answers and leaves

module _ (s b : List ℕ) where
  pub answers-short : length b < capture_bytes → (line_told (Err R.Output) ≡ line_answer s b) × (b ≡ line_bytes s b)
  unfolding line_told line_answer line_bytes
  answers-short h = (rw (lt-leb _ _ h), rw (lt-leb _ _ h))

  module _ (h : capture_bytes ≤ length b) where
    room : (m : Meaning) → meaning_of s ≡ m → (line_answer s b ≡ meaning_told m) × (line_bytes s b ≡ filled m b)
    unfolding line_answer line_bytes
    room m e = (rw (le-leb _ _ h, e), rw (le-leb _ _ h, e))

    pub answers-refused : meaning_of s ≡ refused → (line_told (Err R.Line) ≡ line_answer s b) × (b ≡ line_bytes s b)
    unfolding line_told meaning_told filled
    answers-refused e = (sym (room refused e).0, sym (room refused e).1)

    module _ (m : List ℕ) (put : m ≡ over 0 (length (spelled (drop 2 s))) (spelled (drop 2 s)) b) where
      pub answers-screen : meaning_of s ≡ screen (spelled (drop 2 s)) → (line_told (Ok L.Screen) ≡ line_answer s b) × (m ≡ line_bytes s b)
      unfolding line_told meaning_told filled
      answers-screen e = (sym (room (screen (spelled (drop 2 s))) e).0, put ∙ sym (room (screen (spelled (drop 2 s))) e).1)

      pub answers-writes : (n : ℕ) → n ≡ length (spelled (drop 2 s)) → meaning_of s ≡ writes (spelled (drop 2 s))
          → (line_told (Ok (L.Writes n)) ≡ line_answer s b) × (m ≡ line_bytes s b)
      unfolding line_told meaning_told filled
      answers-writes n l e =
          (ap (λ (x : ℕ). given (writes_of x)) l ∙ sym (room (writes (spelled (drop 2 s))) e).0, put ∙ sym (room (writes (spelled (drop 2 s))) e).1)

-- ---- what an answer of `parse` means, for its callers

front : (d b : List ℕ) (n : ℕ) → n ≡ length d → take n (over 0 (length d) d b) ≡ d
front d b n e = take_at d (drop (length d) b) n (sym e)

module _ (s b m : List ℕ) (h : capture_bytes ≤ length b) (left : m ≡ line_bytes s b) where
  pub parse-writes : (n : ℕ) → line_told (Ok (L.Writes n)) ≡ line_answer s b → (meaning_of s ≡ writes (take n m)) × (n ≤ capture_bytes)
  unfolding line_told meaning_told filled
  parse-writes n t = go (read s) where
    go : Read s → (meaning_of s ≡ writes (take n m)) × (n ≤ capture_bytes)
    go (is_refused e) = let w : given (writes_of n) ≡ refusal 7 = t ∙ (room s b h refused e).0 in let z : ◌≡◌ {A = ℕ} 0 1 = cc in absurd (omega arith)
    go (is_writes y l e) =
        let d : List ℕ = spelled (drop 2 s) in
        let w : given (writes_of n) ≡ given (writes_of (length d)) = t ∙ (room s b h (writes d) e).0 in
        let k : n ≡ length d = cc in
        (e ∙ ap writes (sym (ap (take n) (left ∙ (room s b h (writes d) e).1) ∙ front d b n k)), omega arith)
    go (is_screen y l e) =
        let w : given (writes_of n) ≡ given one_screen = t ∙ (room s b h (screen (spelled (drop 2 s))) e).0 in let z : ◌≡◌ {A = ℕ} 0 1 = cc in absurd (omega arith)

  pub parse-screen : line_told (Ok L.Screen) ≡ line_answer s b → meaning_of s ≡ screen (take capture_bytes m)
  unfolding line_told meaning_told filled
  parse-screen t = go (read s) where
    go : Read s → meaning_of s ≡ screen (take capture_bytes m)
    go (is_refused e) = let w : given one_screen ≡ refusal 7 = t ∙ (room s b h refused e).0 in cc
    go (is_writes y l e) =
        let w : given one_screen ≡ given (writes_of (length (spelled (drop 2 s)))) = t ∙ (room s b h (writes (spelled (drop 2 s))) e).0 in cc
    go (is_screen y l e) =
        let d : List ℕ = spelled (drop 2 s) in
        e ∙ ap screen (sym (ap (take capture_bytes) (left ∙ (room s b h (screen d) e).1) ∙ front d b capture_bytes (sym l)))

  pub parse-refused : (r : Refusal) → line_told (Err r) ≡ line_answer s b → (meaning_of s ≡ refused) × (code_of r ≡ 7) × (m ≡ b)
  unfolding line_told meaning_told filled
  parse-refused r t = go (read s) where
    go : Read s → (meaning_of s ≡ refused) × (code_of r ≡ 7) × (m ≡ b)
    go (is_refused e) = let w : ◌≡◌ {A = Answer Content} (refusal (code_of r)) (refusal 7) = t ∙ (room s b h refused e).0 in (e, cc, left ∙ (room s b h refused e).1)
    go (is_writes y l e) =
        let w : refusal (code_of r) ≡ given (writes_of (length (spelled (drop 2 s)))) = t ∙ (room s b h (writes (spelled (drop 2 s))) e).0 in let z : ◌≡◌ {A = ℕ} 0 1 = cc in absurd (omega arith)
    go (is_screen y l e) =
        let w : refusal (code_of r) ≡ given one_screen = t ∙ (room s b h (screen (spelled (drop 2 s))) e).0 in let z : ◌≡◌ {A = ℕ} 0 1 = cc in absurd (omega arith)
