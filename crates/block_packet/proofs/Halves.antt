-- A word is the number of its eight bytes; two such words, the low one first, are the number of the sixteen bytes, and the other way
-- round.
use mathlib.Core.Path.{◌≡◌, refl, sym, ap, ◌∙◌}
use mathlib.Core.List.{List, [], ◌∷◌, ◌++◌, append_assoc}
use Prim.Native.Nat.{ℕ, zero, suc, ◌+◌, ◌*◌, ◌/◌, ◌%◌, ◌^◌, ◌<◌, ◌≤◌}
use native.Mathlib.Nat.{pow-suc, zero-add, suc-add, mul_assoc}
use native.Mathlib.Omega.{arith}
use lib.Bits.{bit_and, and_mask}
use lib.ListN.{length, take, drop, get_or, set, length-append}
use lib.Seq.{drop-cons, take-add, drop-drop, take_at, drop_at, length-take-le}
use Rattle.bits_eight.specs.Eight.{eight_at}
use Rattle.bits.specs.Over.{part, over}
use Rattle.bits_eight.proofs.Eights.{store_eight}
use Rattle.bits.proofs.Overs.{length_part}
use Rattle.layout.specs.Block.{value_of}
use Rattle.receiver.specs.Receive.{words}
use Rattle.receiver.specs.Store.{bytes_of}
use Rattle.receiver.proofs.Words.{length-bytes}

-- ---- from bytes

-- the first n elements from `at` on, one by one
part-cons : (b : List ℕ) (at next n : ℕ) → suc at ≡ next → at + suc n ≤ length b → part at (suc n) b ≡ get_or b at 0 ∷ part next n b
part-cons b at next n e h = ap (take (suc n)) (drop-cons b at 0 (omega arith)) ∙ ap (λ (k : ℕ). get_or b at 0 ∷ take n (drop k b)) e

pub value_eight : (b : List ℕ) (at : ℕ) → at + 8 ≤ length b → eight_at b at ≡ value_of (part at 8 b)
unfolding eight_at value_of
value_eight b at h =
    rw (
      part-cons b at (at + 1) 7 (omega arith) (omega arith),
      part-cons b (at + 1) (at + 2) 6 (omega arith) (omega arith),
      part-cons b (at + 2) (at + 3) 5 (omega arith) (omega arith),
      part-cons b (at + 3) (at + 4) 4 (omega arith) (omega arith),
      part-cons b (at + 4) (at + 5) 3 (omega arith) (omega arith),
      part-cons b (at + 5) (at + 6) 2 (omega arith) (omega arith),
      part-cons b (at + 6) (at + 7) 1 (omega arith) (omega arith),
      part-cons b (at + 7) (at + 8) 0 (omega arith) (omega arith),
    ) (omega arith)

value-append : (l m : List ℕ) → value_of (l ++ m) ≡ value_of l + 256 ^ length l * value_of m
unfolding value_of
value-append [] m = omega arith
value-append (x ∷ l) m =
    let e : 256 ^ suc (length l) ≡ 256 ^ length l * 256 = pow-suc 256 (length l) in
    rw (value-append l m, e) (omega arith)

-- two words are the number of sixteen bytes
pub value-words : (b : List ℕ) (at : ℕ) → at + 16 ≤ length b → words (value_of (part at 8 b)) (value_of (part (at + 8) 8 b)) ≡ value_of (part at 16 b)
value-words b at h =
    let n : length (part at 8 b) ≡ 8 = length_part at 8 b (omega arith) in
    let e : part at 16 b ≡ part at 8 b ++ part (at + 8) 8 b = take-add 8 8 (drop at b) ∙ ap (λ (l : List ℕ). part at 8 b ++ take 8 l) (drop-drop 8 at b) in
    sym (ap value_of e ∙ value-append (part at 8 b) (part (at + 8) 8 b) ∙ ap (λ (k : ℕ). value_of (part at 8 b) + 256 ^ k * value_of (part (at + 8) 8 b)) n ∙ omega arith)

-- ---- to bytes

-- byte k of a word, by the code's shift and mask; in `bytes_of` it is a byte of what is left after each byte before it
byte_of : (w k v : ℕ) → w / 2 ^ k ≡ v → bit_and (w / 2 ^ k) 255 ≡ v % 256
byte_of w k v e = and_mask (w / 2 ^ k) 8 ∙ ap (λ (x : ℕ). x % 256) e

-- of a word's bytes
pub put_eight : (b : List ℕ) (at w : ℕ) → at + 8 ≤ length b
    → set (set (set (set (set (set (set (set b at (bit_and w 255)) (at + 1) (bit_and (w / 2 ^ 8) 255)) (at + 2) (bit_and (w / 2 ^ 16) 255))
    (at + 3) (bit_and (w / 2 ^ 24) 255)) (at + 4) (bit_and (w / 2 ^ 32) 255)) (at + 5) (bit_and (w / 2 ^ 40) 255))
    (at + 6) (bit_and (w / 2 ^ 48) 255)) (at + 7) (bit_and (w / 2 ^ 56) 255)
    ≡ over at 8 (bytes_of 8 w) b
unfolding bytes_of
put_eight b at w h =
    let w2 : ℕ = w / 256 / 256 in
    let w3 : ℕ = w2 / 256 in
    let w4 : ℕ = w3 / 256 in
    let w5 : ℕ = w4 / 256 in
    let w6 : ℕ = w5 / 256 in
    let w7 : ℕ = w6 / 256 in
    store_eight b at _ _ _ _ _ _ _ _ h
    ∙ (λ t.
    over at 8
    (and_mask w 8 t ∷ byte_of w 8 (w / 256) refl t ∷ byte_of w 16 w2 (omega arith) t ∷ byte_of w 24 w3 (omega arith) t
    ∷ byte_of w 32 w4 (omega arith) t ∷ byte_of w 40 w5 (omega arith) t ∷ byte_of w 48 w6 (omega arith) t ∷ byte_of w 56 w7 (omega arith) t ∷ []) b)

-- the bytes of n low bytes' worth and of what stands above
bytes-append : (n m low high : ℕ) → low < 256 ^ n → bytes_of (n + m) (high * 256 ^ n + low) ≡ bytes_of n low ++ bytes_of m high
unfolding bytes_of
bytes-append zero m low high h = let e : high * 1 + low ≡ high = omega arith in λ t. bytes_of (zero-add m t) (e t)
bytes-append (suc n) m low high h =
    let p : 256 ^ suc n ≡ 256 ^ n * 256 = pow-suc 256 n in
    let q : high * 256 ^ suc n ≡ high * 256 ^ n * 256 = ap (λ (k : ℕ). high * k) p ∙ sym (mul_assoc high (256 ^ n) 256) in
    let first : (high * 256 ^ suc n + low) % 256 ≡ low % 256 = omega arith in
    let rest : (high * 256 ^ suc n + low) / 256 ≡ high * 256 ^ n + low / 256 = omega arith in
    ap (λ (k : ℕ). bytes_of k (high * 256 ^ suc n + low)) (suc-add n m)
    ∙ (λ t. first t ∷ (ap (bytes_of (n + m)) rest ∙ bytes-append n m (low / 256) high (omega arith)) t)

-- the sixteen bytes of two words, put one word after the other
pub put-words : (b : List ℕ) (at lo hi : ℕ) → at + 16 ≤ length b → lo < 18446744073709551616
    → over (at + 8) 8 (bytes_of 8 hi) (over at 8 (bytes_of 8 lo) b) ≡ over at 16 (bytes_of 16 (words lo hi)) b
put-words b at lo hi h k =
    let n : length (take at b ++ bytes_of 8 lo) ≡ at + 8 = length-append (take at b) (bytes_of 8 lo) ∙ (λ t. length-take-le at b (omega arith) t + length-bytes 8 lo t) in
    let mid : over at 8 (bytes_of 8 lo) b ≡ (take at b ++ bytes_of 8 lo) ++ drop 8 (drop at b) = sym (append_assoc (take at b) (bytes_of 8 lo) (drop 8 (drop at b))) in
    ap (over (at + 8) 8 (bytes_of 8 hi)) mid
    ∙ (λ t. take_at (take at b ++ bytes_of 8 lo) (drop 8 (drop at b)) (at + 8) n t ++ (bytes_of 8 hi ++ drop 8 (drop_at (take at b ++ bytes_of 8 lo) (drop 8 (drop at b)) (at + 8) n t)))
    ∙ append_assoc (take at b) (bytes_of 8 lo) (bytes_of 8 hi ++ drop 8 (drop 8 (drop at b)))
    ∙ ap (λ (l : List ℕ). take at b ++ (bytes_of 8 lo ++ (bytes_of 8 hi ++ l))) (drop-drop 8 8 (drop at b))
    ∙ ap (λ (l : List ℕ). take at b ++ l) (sym (append_assoc (bytes_of 8 lo) (bytes_of 8 hi) (drop 16 (drop at b))))
    ∙ ap (λ (l : List ℕ). take at b ++ (l ++ drop 16 (drop at b))) (sym (bytes-append 8 8 lo hi k))
