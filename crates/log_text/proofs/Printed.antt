-- The lines put together from their parts, and how long they are.
use Prim.Native.Nat.{ℕ, ◌+◌, ◌-◌, ◌*◌, ◌≤◌, ◌<◌}
use mathlib.Core.Path.{◌≡◌, refl, ap, ap₂, sym, ◌∙◌}
use mathlib.Core.List.{List, [], ◌∷◌, ◌++◌, append_assoc, append-nil}
use native.Mathlib.Nat.{zero-add}
use native.Mathlib.Numerals.{add-one}
use native.Mathlib.Omega.{arith}
use lib.ListN.{length, get_or, set, take, drop, length-append}
use lib.Seq.{take_at, take-suc, take-length, length-take-le}
use Rattle.bits.specs.Over.{over}
use Rattle.bits.specs.Word.{low_byte, high_byte}
use Rattle.bits.proofs.Overs.{over-over, set-over}
use Rattle.hex_digits.specs.Hex.{hex_text}
use Rattle.hex_digits.proofs.Writing.{length-hex_text}
use Rattle.log_text.specs.Text.{lf, hex_line, decimal_text, number_line, refusal_of, word_text, words_text, row_line}

-- ---- a text at the front of an output

-- what `&out[0..n]` lends of an output that begins with a text of n bytes
pub text-lent : (text out out' : List ℕ) (n : ℕ) → length text ≡ n → out' ≡ over 0 n text out → take (n - 0) (drop 0 out') ≡ text
text-lent text out out' n h e =
    let z : n - 0 ≡ n = omega arith in
    ap₂ (λ (m : ℕ) (l : List ℕ). take m l) z e ∙ take_at text (drop n out) n h

-- ---- bytes on a line

pub length-hex_line : (s : List ℕ) → length (hex_line s) ≡ 2 * length s + 1
unfolding hex_line
length-hex_line s = simp (length-append, length-hex_text)

pub command_put : (s b m : List ℕ) (at : ℕ) → at + 2 * length s + 1 ≤ length b → m ≡ over at (2 * length s) (hex_text s) b
    → set m (at + 2 * length s) 10 ≡ over at (length (hex_line s)) (hex_line s) b
unfolding hex_line
command_put s b m at h e =
    ap (λ (l : List ℕ). set l (at + 2 * length s) 10) e
    ∙ set-over at (2 * length s) (hex_text s) b 10 (omega arith) (length-hex_text s)
    ∙ ap (λ (n : ℕ). over at n (hex_text s ++ lf) b) (sym (length-hex_line s))

-- ---- a number on a line

pub length-number : (x : ℕ) → length (number_line x) ≡ length (decimal_text x) + 1
unfolding number_line
length-number x = length-append (decimal_text x) lf

pub number_put : (x at n : ℕ) (b m : List ℕ) → at + n < length b → n ≡ length (decimal_text x) → m ≡ over at (length (decimal_text x)) (decimal_text x) b
    → set m (at + n) 10 ≡ over at (length (number_line x)) (number_line x) b
unfolding number_line
number_put x at n b m h en em =
    (λ j. set (em j) (at + en j) 10)
    ∙ set-over at (length (decimal_text x)) (decimal_text x) b 10 (omega arith) refl
    ∙ ap (λ (k : ℕ). over at k (decimal_text x ++ lf) b) (sym (length-number x))

-- ---- a refused line

abbrev pub head : List ℕ
head = 108 ∷ 105 ∷ 110 ∷ 101 ∷ 32 ∷ []

abbrev pub tail : List ℕ
tail = 58 ∷ 32 ∷ 55 ∷ 10 ∷ []

pub length-refusal : (d : List ℕ) → length (refusal_of d) ≡ length d + 9
unfolding refusal_of
length-refusal d = let e : length (d ++ tail) ≡ length d + 4 = length-append d tail in omega arith

pub refusal_put : (d b m₁ m₂ m₃ : List ℕ) (at : ℕ) → at ≤ length b → m₁ ≡ over at 5 head b → m₂ ≡ over (at + 5) (length d) d m₁
    → m₃ ≡ over (at + 5 + length d) 4 tail m₂ → m₃ ≡ over at (length (refusal_of d)) (refusal_of d) b
unfolding refusal_of
refusal_put d b m₁ m₂ m₃ at h e₁ e₂ e₃ =
    let n : length (head ++ d) ≡ 5 + length d = length-append head d in
    let a : at + 5 + length d ≡ at + (5 + length d) = omega arith in
    let z : 5 + length d + 4 ≡ length (refusal_of d) = sym (length-refusal d ∙ omega arith) in
    let two : m₂ ≡ over at (5 + length d) (head ++ d) b = e₂ ∙ ap (over (at + 5) (length d) d) e₁ ∙ over-over at 5 (length d) head d b h refl in
    e₃
    ∙ (λ j. over (a j) 4 tail (two j))
    ∙ over-over at (5 + length d) 4 (head ++ d) tail b h n
    ∙ (λ j. over at (z j) (append_assoc head d tail j) b)

-- ---- words on a line

pub length-word_text : (w : ℕ) → length (word_text w) ≡ 4
unfolding word_text
length-word_text w = length-hex_text (high_byte w ∷ (low_byte w ∷ []))

pub word_put : (w h l at : ℕ) (b m o : List ℕ) → at ≤ length b → h ≡ high_byte w → l ≡ low_byte w
    → m ≡ over at 2 (hex_text (h ∷ [])) b → o ≡ over (at + 2) 2 (hex_text (l ∷ [])) m → o ≡ over at 4 (word_text w) b
unfolding word_text hex_text
word_put w h l at b m o room eh el em eo =
    eo
    ∙ ap (over (at + 2) 2 (hex_text (l ∷ []))) em
    ∙ over-over at 2 2 (hex_text (h ∷ [])) (hex_text (l ∷ [])) b room refl
    ∙ (λ j. over at 4 (hex_text (eh j ∷ (el j ∷ []))) b)

pub length-words_text : (ws : List ℕ) → length (words_text ws) ≡ 4 * length ws
unfolding words_text
length-words_text [] = refl
length-words_text (w ∷ ws) = simp (length-append, length-word_text, length-words_text ws) (omega arith)

pub length-row_line : (ws : List ℕ) → length (row_line ws) ≡ 4 * length ws + 1
unfolding row_line
length-row_line ws = simp (length-append, length-words_text)

words_snoc : (ws : List ℕ) (w : ℕ) → words_text (ws ++ (w ∷ [])) ≡ words_text ws ++ word_text w
unfolding words_text
words_snoc [] w = append-nil (word_text w)
words_snoc (x ∷ ws) w = rw (words_snoc ws w) (sym (append_assoc (word_text x) (words_text ws) (word_text w)))

pub row_turn : (ws b m o : List ℕ) (i : ℕ) → i < length ws → m ≡ over 0 (4 * i) (words_text (take i ws)) b
    → o ≡ over (4 * i) 4 (word_text (get_or ws i 0)) m → o ≡ over 0 (4 * (i + 1)) (words_text (take (i + 1) ws)) b
row_turn ws b m o i h em eo =
    let t : List ℕ = words_text (take i ws) in
    let w : List ℕ = word_text (get_or ws i 0) in
    let n : 4 * i + 4 ≡ 4 * (i + 1) = omega arith in
    let lt : length t ≡ 4 * i = length-words_text (take i ws) ∙ ap (λ (k : ℕ). 4 * k) (length-take-le i ws (omega arith)) in
    let e : t ++ w ≡ words_text (take (i + 1) ws) =
    sym (ap (λ (k : ℕ). words_text (take k ws)) (add-one i) ∙ ap words_text (take-suc ws i 0 h) ∙ words_snoc (take i ws) (get_or ws i 0)) in
    eo
    ∙ (λ j. over (sym (zero-add (4 * i)) j) 4 w (em j))
    ∙ over-over 0 (4 * i) 4 t w b (omega arith) lt
    ∙ (λ j. over 0 (n j) (e j) b)

pub row_end : (ws b m : List ℕ) (i : ℕ) → length ws ≡ 256 → i ≡ 256 → 1025 ≤ length b → m ≡ over 0 (4 * i) (words_text (take i ws)) b
    → set m 1024 10 ≡ over 0 (length (row_line ws)) (row_line ws) b
unfolding row_line
row_end ws b m i hl hi room em =
    let all : take i ws ≡ ws = ap (λ (k : ℕ). take k ws) (hi ∙ sym hl) ∙ take-length ws in
    let n : 4 * i ≡ 1024 = omega arith in
    let l : length (words_text ws) ≡ 1024 = length-words_text ws ∙ ap (λ (k : ℕ). 4 * k) hl in
    let z : 1025 ≡ length (row_line ws) = sym (length-row_line ws ∙ ap (λ (k : ℕ). 4 * k + 1) hl) in
    let full : m ≡ over 0 1024 (words_text ws) b = em ∙ (λ j. over 0 (n j) (words_text (all j)) b) in
    ap (λ (x : List ℕ). set x 1024 10) full
    ∙ set-over 0 1024 (words_text ws) b 10 (omega arith) l
    ∙ ap (λ (k : ℕ). over 0 k (words_text ws ++ lf) b) z
