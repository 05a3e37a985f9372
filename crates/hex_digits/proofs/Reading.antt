-- What digits spell, two at a time: when they spell bytes (`even-spells`, `odd-spells`), how many and which (`length-spelled`,
-- `spelled_at`), and its first two digits and the rest (`two`).
use Prim.Native.Nat.{ℕ, zero, suc, ◌+◌, ◌*◌, ◌<◌, ◌≤◌}
use mathlib.Core.Bool.{Bool, true, false, ◌&&◌, cond, false≢true}
use mathlib.Core.Path.{◌≡◌, refl, ap, sym, ◌∙◌}
use mathlib.Core.Option.{Option, none, some}
use mathlib.Core.List.{List, [], ◌∷◌}
use native.Mathlib.Nat.{zero-add}
use native.Mathlib.Numerals.{add-one}
use native.Mathlib.Omega.{arith}
use borrow.Author.Tests.{ltb-true, ltb-false, lt-ltb, le-ltb}
use lib.Bits.{bit_or, or_lt, or_add_and, and_le_l, and_le_r}
use lib.Dec.{ltb}
use lib.ListN.{length, get_or, set, drop, drop_of_length-le}
use lib.Seq.{drop-cons, paste, paste-suc}
use Rattle.bits.proofs.Tests.{and_left, and_right, and_assoc, and_yes}
use Rattle.hex_digits.specs.Hex.{nibble, before, paired, bytes_of, present, or_empty, spells, spelled}

-- ---- when digits spell bytes

unfoldable pub all_digits : List ℕ → Bool
all_digits [] = true
all_digits (x ∷ s) = ltb (nibble x) 16 && all_digits s

present-paired : (h l : ℕ) (o : Option (List ℕ)) → present (paired h l o) ≡ (ltb h 16 && (ltb l 16 && present o))
unfolding paired before present
present-paired h l o = go (ltb h 16) (ltb l 16) o where
  go : (t u : Bool) (o : Option (List ℕ)) → present (cond (t && u) (before (h * 16 + l) o) none) ≡ (t && (u && present o))
  go true true none = refl
  go true true (some d) = refl
  go true false o = refl
  go false u o = refl

spells-two : (x y : ℕ) (s : List ℕ) → spells (x ∷ (y ∷ s)) ≡ (ltb (nibble x) 16 && (ltb (nibble y) 16 && spells s))
unfolding spells bytes_of
spells-two x y s = present-paired (nibble x) (nibble y) (bytes_of s)

pub spells-nil : spells [] ≡ true
unfolding spells bytes_of present
spells-nil = refl

pub spells_one : (x : ℕ) → spells (x ∷ []) ≡ false
unfolding spells bytes_of present
spells_one x = refl

pub even-spells : (n : ℕ) (s : List ℕ) → length s ≡ 2 * n → spells s ≡ all_digits s
unfolding all_digits
even-spells zero [] h = spells-nil
even-spells zero (x ∷ s) h = absurd (omega arith)
even-spells (suc n) [] h = absurd (omega arith)
even-spells (suc n) (x ∷ []) h = absurd (omega arith)
even-spells (suc n) (x ∷ (y ∷ s)) h = spells-two x y s ∙ rw (even-spells n s (omega arith))

and_no : (a : Bool) → (a && false) ≡ false
and_no true = refl
and_no false = refl

pub odd-spells : (n : ℕ) (s : List ℕ) → length s ≡ 2 * n + 1 → spells s ≡ false
odd-spells zero [] h = absurd (omega arith)
odd-spells zero (x ∷ []) h = spells_one x
odd-spells zero (x ∷ (y ∷ s)) h = absurd (omega arith)
odd-spells (suc n) [] h = absurd (omega arith)
odd-spells (suc n) (x ∷ []) h = absurd (omega arith)
odd-spells (suc n) (x ∷ (y ∷ s)) h = spells-two x y s ∙ rw (odd-spells n s (omega arith), and_no (ltb (nibble y) 16), and_no (ltb (nibble x) 16))

-- the digits' values side by side in one number, which is below 16 exactly if each is
or-below : (a b : ℕ) → ltb (bit_or a b) 16 ≡ (ltb a 16 && ltb b 16)
or-below a b = go (ltb a 16) (ltb b 16) refl refl where
  go : (t u : Bool) → ltb a 16 ≡ t → ltb b 16 ≡ u → ltb (bit_or a b) 16 ≡ (t && u)
  go true true e f = lt-ltb _ _ (or_lt 4 a b (ltb-true a 16 e) (ltb-true b 16 f))
  go true false e f = let h : 16 ≤ b = ltb-false b 16 f in le-ltb (bit_or a b) 16 (omega (arith, or_add_and a b, and_le_l a b))
  go false u e f = let h : 16 ≤ a = ltb-false a 16 e in le-ltb (bit_or a b) 16 (omega (arith, or_add_and a b, and_le_r a b))

-- a turn of the loop that looks at all digits, and its end
pub digits_turn : (s : List ℕ) (i all v : ℕ) → i < length s → v ≡ nibble (get_or s i 0)
    → (ltb all 16 && all_digits (drop i s)) ≡ (ltb (bit_or all v) 16 && all_digits (drop (i + 1) s))
unfolding all_digits
digits_turn s i all v h e =
    rw (add-one, drop-cons s i 0 h, e, or-below) (sym (and_assoc (ltb all 16) (ltb (nibble (get_or s i 0)) 16) (all_digits (drop (suc i) s))))

pub digits_end : (s : List ℕ) (i all : ℕ) → length s ≤ i → (ltb all 16 && all_digits (drop i s)) ≡ ltb all 16
unfolding all_digits
digits_end s i all h = rw (drop_of_length-le s {i = i} h) (and_yes (ltb all 16))

-- ---- which bytes

pub spelled-some : (s : List ℕ) → spells s ≡ true → bytes_of s ≡ some (spelled s)
unfolding spells spelled present or_empty
spelled-some s e = go (bytes_of s) e where
  go : (o : Option (List ℕ)) → present o ≡ true → o ≡ some (or_empty o)
  go none e = absurd (false≢true e)
  go (some d) e = refl

pub some-spells : (s d : List ℕ) → bytes_of s ≡ some d → (spells s ≡ true) × (spelled s ≡ d)
unfolding spells spelled present or_empty
some-spells s d e = (rw e, rw e)

-- the first two digits of a text that spells bytes
pub record Two (x y : ℕ) (s : List ℕ) : Type 0 where
  pub high : nibble x < 16
  pub low : nibble y < 16
  pub rest : spells s ≡ true
  pub bytes : spelled (x ∷ (y ∷ s)) ≡ (nibble x * 16 + nibble y) ∷ spelled s

spelled-two : (x y : ℕ) (s : List ℕ) → ltb (nibble x) 16 ≡ true → ltb (nibble y) 16 ≡ true → spells s ≡ true
    → spelled (x ∷ (y ∷ s)) ≡ (nibble x * 16 + nibble y) ∷ spelled s
unfolding spelled bytes_of paired before or_empty
spelled-two x y s h l r = rw (h, l, spelled-some s r)

pub two : (x y : ℕ) (s : List ℕ) → spells (x ∷ (y ∷ s)) ≡ true → Two x y s
two x y s e =
    let a : Bool = ltb (nibble x) 16 in
    let b : Bool = ltb (nibble y) 16 in
    let both : (a && (b && spells s)) ≡ true = sym (spells-two x y s) ∙ e in
    let h : a ≡ true = and_left a (b && spells s) both in
    let more : (b && spells s) ≡ true = and_right a (b && spells s) both in
    let l : b ≡ true = and_left b (spells s) more in
    let r : spells s ≡ true = and_right b (spells s) more in
    record { high = ltb-true (nibble x) 16 h; low = ltb-true (nibble y) 16 l; rest = r; bytes = spelled-two x y s h l r }

-- every one is a digit
pub digit_at : (s : List ℕ) → spells s ≡ true → (k : ℕ) → k < length s → nibble (get_or s k 0) < 16
digit_at [] e k h = absurd (omega arith)
digit_at (x ∷ []) e k h = absurd (false≢true (sym (spells_one x) ∙ e))
digit_at (x ∷ (y ∷ s)) e zero h = (two x y s e).high
digit_at (x ∷ (y ∷ s)) e (suc zero) h = (two x y s e).low
digit_at (x ∷ (y ∷ s)) e (suc (suc k)) h = digit_at s (two x y s e).rest k (omega arith)

-- two digits a byte
spelled-nil : spelled [] ≡ []
unfolding spelled bytes_of or_empty
spelled-nil = refl

pub length-spelled : (s : List ℕ) → spells s ≡ true → 2 * length (spelled s) ≡ length s
length-spelled [] e = rw spelled-nil
length-spelled (x ∷ []) e = absurd (false≢true (sym (spells_one x) ∙ e))
length-spelled (x ∷ (y ∷ s)) e =
    let t = two x y s e in
    let ih : 2 * length (spelled s) ≡ length s = length-spelled s t.rest in
    rw t.bytes (omega arith)

pub spelled_at : (s : List ℕ) → spells s ≡ true → (i : ℕ) → 2 * i + 1 < length s
    → get_or (spelled s) i 0 ≡ nibble (get_or s (2 * i) 0) * 16 + nibble (get_or s (2 * i + 1) 0)
spelled_at [] e i h = absurd (omega arith)
spelled_at (x ∷ []) e i h = absurd (omega arith)
spelled_at (x ∷ (y ∷ s)) e zero h = rw (two x y s e).bytes
spelled_at (x ∷ (y ∷ s)) e (suc i) h =
    let t = two x y s e in
    let a : 2 * suc i ≡ suc (suc (2 * i)) = omega arith in
    let b : suc (suc (2 * i)) + 1 ≡ suc (suc (2 * i + 1)) = omega arith in
    rw (t.bytes, a, b) (spelled_at s t.rest i (omega arith))

-- a byte put in its place
pub decode_turn : (s b m : List ℕ) (i v : ℕ) → spells s ≡ true → 2 * i + 1 < length s → i < length b
    → v ≡ nibble (get_or s (2 * i) 0) * 16 + nibble (get_or s (2 * i + 1) 0) → m ≡ paste b 0 (spelled s) i
    → set m i v ≡ paste b 0 (spelled s) (i + 1)
decode_turn s b m i v e hs hb ev em =
    let n : i < length (spelled s) = omega (arith, length-spelled s e) in
    let at : v ≡ get_or (spelled s) i 0 = ev ∙ sym (spelled_at s e i hs) in
    let z : 0 + i < length b = omega arith in
    rw (em, at, add-one) (ap (λ (j : ℕ). set (paste b 0 (spelled s) i) j (get_or (spelled s) i 0)) (sym (zero-add i)) ∙ paste-suc b 0 (spelled s) i 0 z n)
