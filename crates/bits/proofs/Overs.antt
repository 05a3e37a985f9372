-- A list with a part replaced: its length, its parts, how the kit's `paste` (a copy half done) ends as one, and where it meets other lists.
use mathlib.Core.Path.{◌≡◌, sym, ap, ap₂, ◌∙◌}
use mathlib.Core.List.{List, [], ◌∷◌, ◌++◌, append_assoc, append-nil}
use Prim.Native.Nat.{ℕ, zero, suc, ◌+◌, ◌-◌, ◌≤◌, ◌<◌}
use native.Mathlib.Nat.{sub-zero, zero-sub, suc-sub-suc}
use native.Mathlib.Numerals.{add-one}
use native.Mathlib.Omega.{arith}
use lib.ListN.{length, take, drop, get_or, set, length-append, length-take, length-drop, take-append-drop, drop_of_length-le, get_or-append}
use lib.Seq.{paste, take-length, drop-drop, take-append-le, drop-append-le, take-add, get_or-take, get_or-drop, length-take-le, drop-append-add, take_at, drop_at, take-nil, set_split}
use Rattle.bits.specs.Over.{part, over}

pub length_over : (at n : ℕ) (ys b : List ℕ) → at + n ≤ length b → length ys ≡ n → length (over at n ys b) ≡ length b
length_over at n ys b h e = simp (length-append, length-take, length-drop) (omega arith)

pub length_part : (at n : ℕ) (b : List ℕ) → at + n ≤ length b → length (part at n b) ≡ n
length_part at n b h = simp (length-take, length-drop) (omega arith)

-- a copy that is done
pub paste-over : (b : List ℕ) (at : ℕ) (s : List ℕ) → paste b at s (length s) ≡ over at (length s) s b
paste-over b at s = rw (take-length s, append_assoc, drop-drop (length s) at b)

-- within the first of two lists, past a start, and within a part
pub over-left : (i n : ℕ) (ys p q : List ℕ) → i + n ≤ length p → over i n ys (p ++ q) ≡ over i n ys p ++ q
over-left i n ys p q h =
    let hi : i ≤ length p = omega arith in
    let hn : n ≤ length (drop i p) = simp length-drop (omega arith) in
    ap₂ (λ (a z : List ℕ). a ++ (ys ++ z)) (take-append-le i p q hi) (ap (drop n) (drop-append-le i p q hi) ∙ drop-append-le n (drop i p) q hn)
    ∙ simp append_assoc

pub over_past : (at i n : ℕ) (ys b : List ℕ) → over (at + i) n ys b ≡ take at b ++ over i n ys (drop at b)
over_past at i n ys b =
    ap₂ (λ (a z : List ℕ). a ++ (ys ++ drop n z)) (take-add at i b) (sym (drop-drop i at b))
    ∙ append_assoc (take at b) (take i (drop at b)) (ys ++ drop n (drop i (drop at b)))

pub over-within : (at m i n : ℕ) (ys b : List ℕ) → i + n ≤ m → at + m ≤ length b → over (at + i) n ys b ≡ over at m (over i n ys (part at m b)) b
over-within at m i n ys b h k =
    let hl : i + n ≤ length (part at m b) = simp (length-take, length-drop) (omega arith) in
    over_past at i n ys b
    ∙ ap (λ (d : List ℕ). take at b ++ over i n ys d) (sym (take-append-drop m (drop at b)))
    ∙ ap (λ (l : List ℕ). take at b ++ l) (over-left i n ys (part at m b) (drop m (drop at b)) hl)

pub get_or-part : (at n : ℕ) (b : List ℕ) (k : ℕ) → k < n → get_or (part at n b) k 0 ≡ get_or b (at + k) 0
get_or-part at n b k h = get_or-take n (drop at b) k 0 h ∙ get_or-drop at b k 0

-- what stands past the part, and before it
pub drop-over : (at n : ℕ) (ys b : List ℕ) → at ≤ length b → length ys ≡ n → drop (at + n) (over at n ys b) ≡ drop n (drop at b)
drop-over at n ys b h l =
    ap (λ (k : ℕ). drop (k + n) (over at n ys b)) (sym (length-take-le at b h))
    ∙ drop-append-add (take at b) (ys ++ drop n (drop at b)) n
    ∙ drop_at ys (drop n (drop at b)) n l

pub get_or-over : (at n i : ℕ) (ys b : List ℕ) → i < at → at ≤ length b → get_or (over at n ys b) i 0 ≡ get_or b i 0
get_or-over at n i ys b h l =
    get_or-append (take at b) (ys ++ drop n (drop at b)) 0 i (omega (arith, length-take-le at b l)) ∙ get_or-take at b i 0 h

-- the whole list; what follows the part x that is done; the rest after the first n
pub over_all : (n : ℕ) (ys b : List ℕ) → length b ≡ n → over 0 n ys b ≡ ys
over_all n ys b h = let ge : length b ≤ n = omega arith in ap (λ (x : List ℕ). ys ++ x) (drop_of_length-le b ge) ∙ append-nil ys

pub over-next : (at n : ℕ) (x ys z : List ℕ) → length x ≡ at → over at n ys (x ++ z) ≡ x ++ ys ++ drop n z
over-next at n x ys z e = rw (take_at x z at e, drop_at x z at e, append_assoc)

pub over-rest : (n m : ℕ) (xs ys b : List ℕ) → length xs ≡ n → length b ≡ n + m → over n m ys (over 0 n xs b) ≡ xs ++ ys
over-rest n m xs ys b h k =
    let ge : length (drop n b) ≤ m = simp length-drop (omega arith) in
    rw (take_at xs (drop n b) n h, drop_at xs (drop n b) n h)
    (ap (λ (z : List ℕ). xs ++ (ys ++ z)) (drop_of_length-le (drop n b) ge) ∙ ap (λ (z : List ℕ). xs ++ z) (append-nil ys))

-- a part written behind the one before it, and one element behind a part
pub over-over : (at n m : ℕ) (xs ys b : List ℕ) → at ≤ length b → length xs ≡ n → over (at + n) m ys (over at n xs b) ≡ over at (n + m) (xs ++ ys) b
over-over at n m xs ys b h e =
    let z : List ℕ = drop n (drop at b) in
    let front : length (take at b ++ xs) ≡ at + n = simp (length-append, length-take) (omega arith) in
    ap (over (at + n) m ys) (sym (append_assoc (take at b) xs z))
    ∙ over-next (at + n) m (take at b ++ xs) ys z front
    ∙ ap (λ (d : List ℕ). take at b ++ xs ++ ys ++ d) (drop-drop m n (drop at b))
    ∙ simp append_assoc

pub set-over : (at n : ℕ) (xs b : List ℕ) (v : ℕ) → at + n < length b → length xs ≡ n → set (over at n xs b) (at + n) v ≡ over at (n + 1) (xs ++ (v ∷ [])) b
set-over at n xs b v h e =
    let l : at + n < length (over at n xs b) = simp (length-append, length-take, length-drop) (omega arith) in
    let one : drop (suc (at + n)) (over at n xs b) ≡ drop 1 (drop (at + n) (over at n xs b)) = sym (drop-drop 1 (at + n) (over at n xs b) ∙ rw add-one) in
    set_split (over at n xs b) (at + n) v l
    ∙ ap (λ (d : List ℕ). take (at + n) (over at n xs b) ++ (v ∷ d)) one
    ∙ over-over at n 1 xs (v ∷ []) b (omega arith) e

-- a part in two pieces, one after the other
pub over_split : (at n m : ℕ) (ys b : List ℕ) → at ≤ length b → length ys ≡ n + m → over at (n + m) ys b ≡ over (at + n) m (drop n ys) (over at n (take n ys) b)
over_split at n m ys b h e =
    let first : length (take n ys) ≡ n = length-take-le n ys (omega arith) in
    ap (λ (l : List ℕ). over at (n + m) l b) (sym (take-append-drop n ys)) ∙ sym (over-over at n m (take n ys) (drop n ys) b h first)

-- the front of a list, and a part, without its first k elements
pub drop-take : (k m : ℕ) (l : List ℕ) → drop k (take m l) ≡ take (m - k) (drop k l)
drop-take zero m l = rw (sub-zero m)
drop-take (suc k) zero l = rw (zero-sub (suc k))
drop-take (suc k) (suc m) [] = sym (take-nil (suc m - suc k))
drop-take (suc k) (suc m) (x ∷ l) = rw (suc-sub-suc) (drop-take k m l)

pub drop-part : (b : List ℕ) (at m k : ℕ) → part (at + k) (at + m - (at + k)) b ≡ drop k (part at m b)
drop-part b at m k =
    let e : at + m - (at + k) ≡ m - k = omega arith in
    (λ t. take (e t) (sym (drop-drop k at b) t)) ∙ sym (drop-take k m (drop at b))
