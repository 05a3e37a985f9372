-- The forms that a line may have: refused, writes or a screen (`read`), and the tests that tell which (`too_short`, .., `short-screen`).
use Prim.Native.Nat.{ℕ, ◌+◌, ◌*◌, ◌≤◌, ◌<◌}
use mathlib.Core.Bool.{Bool, true, false, cond, false≢true}
use mathlib.Core.Path.{◌≡◌, refl, ap, sym, ◌∙◌}
use mathlib.Core.Option.{Option, none, some}
use mathlib.Core.List.{List, [], ◌∷◌}
use native.Mathlib.Omega.{arith}
use borrow.Author.Tests.{le-leb, lt-leb, leb-true, leb-false, eq-eqb, ne_eqb, eqb-true, eqb-false}
use lib.Dec.{leb, eqb}
use lib.ListN.{length, get_or, drop}
use Rattle.hex_digits.specs.Hex.{nibble, bytes_of, present, spells, spelled}
use Rattle.hex_digits.proofs.Reading.{two, spelled-some, length-spelled}
use Rattle.parts.specs.Parts.{capture_bytes}
use Rattle.log_line.specs.Line.{line_digits, writes, screen, refused, by_kind, by_bytes, meaning_of}

-- a line's first byte, of a line that spells bytes
abbrev pub kind_byte : List ℕ → ℕ
kind_byte s = nibble (get_or s 0 0) * 16 + nibble (get_or s 1 0)

-- ---- what breaks the form

pub too_short : (s : List ℕ) → length s < 2 → meaning_of s ≡ refused
unfolding meaning_of by_bytes by_kind bytes_of
too_short [] h = refl
too_short (x ∷ []) h = refl
too_short (x ∷ (y ∷ s)) h = absurd (omega arith)

pub not-spelled : (s : List ℕ) → spells s ≡ false → meaning_of s ≡ refused
unfolding meaning_of by_bytes spells present
not-spelled s e = go (bytes_of s) e where
  go : (o : Option (List ℕ)) → present o ≡ false → by_bytes o ≡ refused
  go none e = refl
  go (some d) e = absurd (false≢true (sym e))

-- a line that spells bytes means what they mean
module _ (s : List ℕ) (e : spells s ≡ true) where
  pub means-bytes : meaning_of s ≡ by_kind (spelled s)
  unfolding meaning_of by_bytes
  means-bytes = ap by_bytes (spelled-some s e)

pub first_byte : (s : List ℕ) → spells s ≡ true → 2 ≤ length s → spelled s ≡ kind_byte s ∷ spelled (drop 2 s)
first_byte [] e h = absurd (omega arith)
first_byte (x ∷ []) e h = absurd (omega arith)
first_byte (x ∷ (y ∷ s)) e h = (two x y s e).bytes

pub rest-spells : (s : List ℕ) → spells s ≡ true → 2 ≤ length s → spells (drop 2 s) ≡ true
rest-spells [] e h = absurd (omega arith)
rest-spells (x ∷ []) e h = absurd (omega arith)
rest-spells (x ∷ (y ∷ s)) e h = (two x y s e).rest

-- ---- what the first byte tells

module _ (s : List ℕ) (e : spells s ≡ true) (h : 2 ≤ length s) where
  means-kind : meaning_of s ≡ by_kind (kind_byte s ∷ spelled (drop 2 s))
  means-kind = means-bytes s e ∙ ap by_kind (first_byte s e h)

  pub rest-count : 2 * length (spelled (drop 2 s)) + 2 ≡ length s
  rest-count = let n : 2 * length (kind_byte s ∷ spelled (drop 2 s)) ≡ length s = rw (first_byte s e h) at (length-spelled s e) in omega arith

  pub some-writes : kind_byte s ≡ 1 → length s ≤ line_digits → meaning_of s ≡ writes (spelled (drop 2 s))
  unfolding by_kind
  some-writes k l =
      let d : length (spelled (drop 2 s)) ≤ capture_bytes = omega (arith, rest-count) in
      means-kind ∙ rw (eq-eqb _ _ k, le-leb _ _ d)

  pub a-screen : kind_byte s ≡ 2 → length s ≡ line_digits → meaning_of s ≡ screen (spelled (drop 2 s))
  unfolding by_kind
  a-screen k l =
      let d : length (spelled (drop 2 s)) ≡ capture_bytes = omega (arith, rest-count) in
      let one : kind_byte s ≡ 1 → ⊥ = λ z. omega arith in
      means-kind ∙ rw (ne_eqb _ _ one, eq-eqb _ _ k, eq-eqb _ _ d)

  pub short-screen : kind_byte s ≡ 2 → (length s ≡ line_digits → ⊥) → meaning_of s ≡ refused
  unfolding by_kind
  short-screen k l =
      let d : length (spelled (drop 2 s)) ≡ capture_bytes → ⊥ = λ z. l (omega (arith, rest-count)) in
      let one : kind_byte s ≡ 1 → ⊥ = λ z. omega arith in
      means-kind ∙ rw (ne_eqb _ _ one, eq-eqb _ _ k, ne_eqb _ _ d)

  pub other-kind : (kind_byte s ≡ 1 → ⊥) → (kind_byte s ≡ 2 → ⊥) → meaning_of s ≡ refused
  unfolding by_kind
  other-kind k l = means-kind ∙ rw (ne_eqb _ _ k, ne_eqb _ _ l)

-- ---- too many bytes mean nothing

kind-long : (b : List ℕ) → 1 + capture_bytes < length b → by_kind b ≡ refused
unfolding by_kind
kind-long [] h = refl
kind-long (k ∷ d) h = rw (lt-leb (length d) capture_bytes (omega arith), ne_eqb (length d) capture_bytes (λ e. omega arith)) (go (eqb k 1) (eqb k 2)) where
  go : (t u : Bool) → cond t refused (cond u refused refused) ≡ refused
  go true u = refl
  go false true = refl
  go false false = refl

pub refused_too_long : (s : List ℕ) → line_digits < length s → meaning_of s ≡ refused
refused_too_long s h = go (spells s) refl where
  go : (t : Bool) → spells s ≡ t → meaning_of s ≡ refused
  go true e = means-bytes s e ∙ kind-long (spelled s) (omega (arith, length-spelled s e))
  go false e = not-spelled s e

-- ---- the three forms

-- a line that is taken: two digits of its kind, and the rest spells its bytes
pub record Body (s : List ℕ) : Type 0 where
  pub long : 2 ≤ length s
  pub rest : spells (drop 2 s) ≡ true
  pub count : 2 * length (spelled (drop 2 s)) + 2 ≡ length s

pub data Read (s : List ℕ) : Type 0 where
  is_refused : meaning_of s ≡ refused → Read s
  is_writes : Body s → length (spelled (drop 2 s)) ≤ capture_bytes → meaning_of s ≡ writes (spelled (drop 2 s)) → Read s
  is_screen : Body s → length (spelled (drop 2 s)) ≡ capture_bytes → meaning_of s ≡ screen (spelled (drop 2 s)) → Read s

read-kind : (s : List ℕ) → spells s ≡ true → 2 ≤ length s → Read s
read-kind s e h = go (eqb (kind_byte s) 1) (leb (length s) line_digits) (eqb (kind_byte s) 2) (eqb (length s) line_digits) refl refl refl refl where
  body : Body s
  body = record { long = h; rest = rest-spells s e h; count = rest-count s e h }

  go : (t u v w : Bool) → eqb (kind_byte s) 1 ≡ t → leb (length s) line_digits ≡ u → eqb (kind_byte s) 2 ≡ v → eqb (length s) line_digits ≡ w → Read s
  go true true v w a b c d =
      let l : length s ≤ line_digits = leb-true (length s) line_digits b in
      is_writes body (omega (arith, rest-count s e h)) (some-writes s e h (eqb-true (kind_byte s) 1 a) l)
  go true false v w a b c d = is_refused (refused_too_long s (leb-false (length s) line_digits b))
  go false u true true a b c d =
      let l : length s ≡ line_digits = eqb-true (length s) line_digits d in
      is_screen body (omega (arith, rest-count s e h)) (a-screen s e h (eqb-true (kind_byte s) 2 c) l)
  go false u true false a b c d = is_refused (short-screen s e h (eqb-true (kind_byte s) 2 c) (eqb-false (length s) line_digits d))
  go false u false w a b c d = is_refused (other-kind s e h (eqb-false (kind_byte s) 1 a) (eqb-false (kind_byte s) 2 c))

pub read : (s : List ℕ) → Read s
read [] = is_refused (too_short [] (omega arith))
read (x ∷ []) = is_refused (too_short (x ∷ []) (omega arith))
read (x ∷ (y ∷ s)) = go (spells (x ∷ (y ∷ s))) refl where
  go : (t : Bool) → spells (x ∷ (y ∷ s)) ≡ t → Read (x ∷ (y ∷ s))
  go true e = read-kind (x ∷ (y ∷ s)) e (omega arith)
  go false e = is_refused (not-spelled (x ∷ (y ∷ s)) e)
