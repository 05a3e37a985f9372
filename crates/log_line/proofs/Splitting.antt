-- What a step of `split` takes of the chunk (`taken-lf`, `taken-end`), and what the buffer then holds (`took-grown`).
use Prim.Native.Nat.{ℕ, zero, suc, ◌+◌, ◌-◌, ◌≤◌, ◌<◌}
use mathlib.Core.Bool.{Bool, true, false, cond}
use mathlib.Core.Path.{◌≡◌, refl, ap, sym, ◌∙◌}
use mathlib.Core.Option.{Option, some}
use mathlib.Core.List.{List, [], ◌∷◌, ◌++◌, append_assoc}
use native.Mathlib.Nat.{add-zero}
use native.Mathlib.Numerals.{add-one}
use native.Mathlib.Omega.{arith}
use borrow.Author.Tests.{le-leb, lt-leb, leb-true, leb-false, eqb-true}
use lib.Dec.{leb, eqb}
use lib.ListN.{length, take, drop, get_or, length-append, length-take, length-drop, take-append-drop, drop_of_length-le}
use lib.Seq.{take_all, take_at, drop-cons, drop-drop, length-take-le}
use mir.Val.{bool_byte}
use Rattle.std.proofs.lemmas.List.{get_or-take, get_or-drop}
use Rattle.bits.specs.Over.{over}
use Rattle.bits.proofs.Overs.{length_over}
use Rattle.log_line.specs.Find.{index_of, index_after}
use Rattle.log_line.specs.Line.{line_digits, refused, meaning_of}
use Rattle.log_line.specs.Lines.{grown, marked_from, meaning_marked}
use Rattle.log_line.specs.Split.{held_as, held_size, too_long, stride, up_to_lf, lf_at, took_held, took_line, taken}
use Rattle.log_line.specs.declared.lines.Held.{Held}
use Rattle.log_line.specs.declared.lines.Held.TheVariants as H
use Rattle.log_line.specs.declared.lines.Taken.{Taken}
use Rattle.log_line.proofs.Marked.{Kept, NoLf, mark-short, mark-long, marked_more, marked-line}

-- ---- up to the next LF

pub index-within : (s : List ℕ) → index_of 10 s ≤ length s
unfolding index_of index_after
index-within [] = omega arith
index-within (b ∷ s) = go (eqb b 10) (index-within s) where
  go : (t : Bool) → index_of 10 s ≤ length s → index_after t (index_of 10 s) ≤ suc (length s)
  go true h = omega arith
  go false h = omega arith

no-lf-before : (s : List ℕ) → NoLf (take (index_of 10 s) s)
unfolding index_of index_after
no-lf-before [] = refl
no-lf-before (b ∷ s) = go (eqb b 10) refl (no-lf-before s) where
  go : (t : Bool) → eqb b 10 ≡ t → NoLf (take (index_of 10 s) s) → NoLf (take (index_after t (index_of 10 s)) (b ∷ s))
  go true e ih = refl
  go false e ih = rw e (ap suc ih)

at-lf : (s : List ℕ) → index_of 10 s < length s → drop (index_of 10 s) s ≡ 10 ∷ drop (suc (index_of 10 s)) s
unfolding index_of index_after
at-lf [] h = absurd (omega arith)
at-lf (b ∷ s) h = go (eqb b 10) refl h (at-lf s) where
  go : (t : Bool) → eqb b 10 ≡ t → index_after (eqb b 10) (index_of 10 s) < suc (length s) → (index_of 10 s < length s → drop (index_of 10 s) s ≡ 10 ∷ drop (suc (index_of 10 s)) s)
      → drop (index_after (eqb b 10) (index_of 10 s)) (b ∷ s) ≡ 10 ∷ drop (suc (index_after (eqb b 10) (index_of 10 s))) (b ∷ s)
  go true e l ih = rw e (ap (λ (x : ℕ). x ∷ s) (eqb-true b 10 e))
  go false e l ih = rw e (ih (let m : suc (index_of 10 s) < suc (length s) = rw e at l in omega arith))

pub no-lf_up : (s : List ℕ) → NoLf (up_to_lf s)
unfolding up_to_lf
no-lf_up s = no-lf-before s

pub length_up : (s : List ℕ) → length (up_to_lf s) ≡ index_of 10 s
unfolding up_to_lf
length_up s = length-take-le (index_of 10 s) s (index-within s)

up_is : (s : List ℕ) → take (index_of 10 s) s ≡ up_to_lf s
unfolding up_to_lf
up_is s = refl

module _ (chunk : List ℕ) (at : ℕ) (h : at ≤ length chunk) where
  pub lf-within : lf_at chunk at ≤ length chunk
  unfolding lf_at
  lf-within = let i : index_of 10 (drop at chunk) ≤ length (drop at chunk) = index-within (drop at chunk) in omega (arith, length-drop at chunk)

  -- what stands from `at` on: bytes without LF, then an LF and the rest, or nothing
  pub taken-lf : lf_at chunk at < length chunk → drop at chunk ≡ up_to_lf (drop at chunk) ++ (10 ∷ drop (lf_at chunk at + 1) chunk)
  unfolding lf_at up_to_lf
  taken-lf l =
      let i : ℕ = index_of 10 (drop at chunk) in
      let lt : i < length (drop at chunk) = simp length-drop (omega arith) in
      let e : at + suc i ≡ at + i + 1 = omega arith in
      sym (take-append-drop i (drop at chunk))
      ∙ ap (λ (t : List ℕ). take i (drop at chunk) ++ t) (at-lf (drop at chunk) lt)
      ∙ ap (λ (t : List ℕ). take i (drop at chunk) ++ (10 ∷ t)) (drop-drop (suc i) at chunk ∙ ap (λ (k : ℕ). drop k chunk) e)

  pub taken-end : length chunk ≤ lf_at chunk at → drop at chunk ≡ up_to_lf (drop at chunk)
  unfolding lf_at up_to_lf
  taken-end l = sym (take_all (index_of 10 (drop at chunk)) (drop at chunk) (simp length-drop (omega arith)))

  -- so the input's lines go on from the grown line
  module _ (held : Option (List ℕ)) (kept : Kept held) (rest : List ℕ) where
    pub lines-lf : lf_at chunk at < length chunk
        → marked_from held (drop at chunk ++ rest) ≡ grown held (up_to_lf (drop at chunk)) ∷ marked_from (some []) (drop (lf_at chunk at + 1) chunk ++ rest)
    lines-lf l =
        ap (λ (t : List ℕ). marked_from held (t ++ rest)) (taken-lf l)
        ∙ ap (marked_from held) (simp append_assoc)
        ∙ marked-line (up_to_lf (drop at chunk)) (drop (lf_at chunk at + 1) chunk ++ rest) held kept (no-lf_up (drop at chunk))

    pub lines_end : length chunk ≤ lf_at chunk at → marked_from held (drop at chunk ++ rest) ≡ marked_from (grown held (up_to_lf (drop at chunk))) rest
    lines_end l =
        ap (λ (t : List ℕ). marked_from held (t ++ rest)) (taken-end l)
        ∙ marked_more (up_to_lf (drop at chunk)) rest held kept (no-lf_up (drop at chunk))

-- ---- the buffer

pub took-fits : (h : Held) (q : List ℕ) → held_size (took_held h q) ≤ line_digits
unfolding took_held
took-fits H.Long q = omega arith
took-fits (H.Bytes n) q = go (leb (n + length q) line_digits) refl where
  go : (u : Bool) → leb (n + length q) line_digits ≡ u → held_size (cond u (H.Bytes (n + length q)) too_long) ≤ line_digits
  go true e = leb-true (n + length q) line_digits e
  go false e = omega arith

pub kept-held : (h : Held) (line : List ℕ) → held_size h ≤ line_digits → length line ≡ line_digits → Kept (held_as h line)
unfolding held_as Kept
kept-held H.Long line fits full = tt
kept-held (H.Bytes n) line fits full = simp length-take (omega arith)

pub length-took : (h : Held) (line : List ℕ) → held_size h ≤ line_digits → length line ≡ line_digits → (q : List ℕ) → length (took_line h q line) ≡ line_digits
unfolding took_line
length-took H.Long line fits full q = full
length-took (H.Bytes n) line fits full q = go (leb (n + length q) line_digits) refl where
  go : (u : Bool) → leb (n + length q) line_digits ≡ u → length (cond u (over n (length q) q line) line) ≡ line_digits
  go true e = let l : n + length q ≤ line_digits = leb-true (n + length q) line_digits e in length_over n (length q) q line (omega arith) refl ∙ full
  go false e = full

-- the buffer holds the grown line
pub took-grown : (h : Held) (line : List ℕ) → held_size h ≤ line_digits → length line ≡ line_digits → (q : List ℕ)
    → held_as (took_held h q) (took_line h q line) ≡ grown (held_as h line) q
unfolding took_held took_line held_as grown
took-grown H.Long line fits full q = refl
took-grown (H.Bytes n) line fits full q = go (leb (n + length q) line_digits) refl where
  both : List ℕ
  both = take n line ++ q

  count : length both ≡ n + length q
  count = simp (length-append, length-take) (omega arith)

  go : (u : Bool) → leb (n + length q) line_digits ≡ u
      → held_as (cond u (H.Bytes (n + length q)) too_long) (cond u (over n (length q) q line) line) ≡ grown (some (take n line)) q
  go true e =
      let z : List ℕ = drop (length q) (drop n line) in
      let l : n + length q ≤ line_digits = leb-true (n + length q) line_digits e in
      ap some (ap (take (n + length q)) (sym (append_assoc (take n line) q z)) ∙ take_at both z (n + length q) count)
      ∙ sym (mark-short both (omega (arith, count)))
  go false e = sym (mark-long both (let l : line_digits < n + length q = leb-false (n + length q) line_digits e in omega (arith, count)))

-- what the held line means, and when it is empty
pub held-means : (n : ℕ) (line : List ℕ) → meaning_marked (held_as (H.Bytes n) line) ≡ meaning_of (take n line)
unfolding held_as meaning_marked
held-means n line = refl

pub held-long : (line : List ℕ) → meaning_marked (held_as H.Long line) ≡ refused
unfolding held_as meaning_marked
held-long line = refl

pub held-not-empty : (n : ℕ) (line : List ℕ) → length line ≡ line_digits → 0 < n → held_as (H.Bytes n) line ≡ some [] → ⊥
unfolding held_as
held-not-empty zero line f n e = omega arith
held-not-empty (suc k) [] f n e = omega arith
held-not-empty (suc k) (x ∷ l) f n e = let z : ◌≡◌ {A = ℕ} 0 1 = cc in omega arith

pub long-not-empty : (line : List ℕ) → held_as H.Long line ≡ some [] → ⊥
unfolding held_as
long-not-empty line n = let z : ◌≡◌ {A = ℕ} 0 1 = cc in omega arith

pub held-nothing : (line : List ℕ) → held_as (H.Bytes 0) line ≡ some []
unfolding held_as
held-nothing line = refl

-- ---- the code's step: e is where the next LF stands, or the chunk's end

pub lf-from : (chunk : List ℕ) (at : ℕ) → at ≤ lf_at chunk at
unfolding lf_at
lf-from chunk at = omega arith

-- a byte that is no LF goes by
pub lf_past : (chunk : List ℕ) (k : ℕ) → k < length chunk → eqb (get_or chunk k 0) 10 ≡ false → lf_at chunk k ≡ lf_at chunk (k + 1)
unfolding lf_at index_of index_after
lf_past chunk k h e =
    let m : ℕ = index_of 10 (drop (suc k) chunk) in
    let s : k + suc m ≡ suc k + m = omega arith in
    ap (λ (l : List ℕ). k + index_of 10 l) (drop-cons chunk k 0 h)
    ∙ ap (λ (t : Bool). k + index_after t m) e
    ∙ s
    ∙ ap (λ (n : ℕ). n + index_of 10 (drop n chunk)) (sym (add-one k))

-- the next LF stands here; there is none any more
pub lf_here : (chunk : List ℕ) (k : ℕ) → k < length chunk → eqb (get_or chunk k 0) 10 ≡ true → lf_at chunk k ≡ k
unfolding lf_at index_of index_after
lf_here chunk k h e =
    ap (λ (l : List ℕ). k + index_of 10 l) (drop-cons chunk k 0 h)
    ∙ ap (λ (t : Bool). k + index_after t (index_of 10 (drop (suc k) chunk))) e
    ∙ add-zero k

pub lf_end : (chunk : List ℕ) (k : ℕ) → length chunk ≤ k → lf_at chunk k ≡ k
unfolding lf_at index_of
lf_end chunk k h = ap (λ (l : List ℕ). k + index_of 10 l) (drop_of_length-le chunk h) ∙ add-zero k

-- a byte of a stride is counted
pub lf_turn : (chunk : List ℕ) (at j n x : ℕ) → at + stride ≤ length chunk → j < stride → n ≤ j
    → x ≡ bool_byte (eqb (get_or (take (at + stride - at) (drop at chunk)) j 0) 10) → (n ≡ 0 → lf_at chunk at ≡ lf_at chunk (at + j))
    → (n + x ≤ j + 1) × (n + x ≡ 0 → lf_at chunk at ≡ lf_at chunk (at + (j + 1)))
lf_turn chunk at j n x h l m e g = go (eqb (get_or chunk (at + j) 0) 10) refl (e ∙ ap (λ (b : ℕ). bool_byte (eqb b 10)) here) where
  here : get_or (take (at + stride - at) (drop at chunk)) j 0 ≡ get_or chunk (at + j) 0
  here = get_or-take (at + stride - at) (drop at chunk) j 0 (omega arith) ∙ get_or-drop at chunk j 0

  go : (t : Bool) → eqb (get_or chunk (at + j) 0) 10 ≡ t → x ≡ bool_byte (eqb (get_or chunk (at + j) 0) 10)
      → (n + x ≤ j + 1) × (n + x ≡ 0 → lf_at chunk at ≡ lf_at chunk (at + (j + 1)))
  go true f y = let one : x ≡ 1 = y ∙ ap bool_byte f in (omega arith, λ z. absurd (omega (arith, z)))
  go false f y =
      let none : x ≡ 0 = y ∙ ap bool_byte f in
      let s : at + j + 1 ≡ at + (j + 1) = omega arith in
      (omega arith, λ z. g (omega (arith, z)) ∙ lf_past chunk (at + j) (omega arith) f ∙ ap (lf_at chunk) s)

module _ (chunk line : List ℕ) (at e : ℕ) (found : e ≡ lf_at chunk at) where
  taken-count : length (up_to_lf (drop at chunk)) ≡ e - at
  unfolding lf_at
  taken-count = omega (arith, length_up (drop at chunk))

  pub split-long : (◌≡◌ {A = Taken} (record { held = too_long; at = e }) (taken H.Long chunk at)) × (line ≡ took_line H.Long (up_to_lf (drop at chunk)) line)
  unfolding taken took_held took_line
  split-long = (rw found, refl)

  pub split-full : (n : ℕ) → line_digits < n + (e - at)
      → (◌≡◌ {A = Taken} (record { held = too_long; at = e }) (taken (H.Bytes n) chunk at)) × (line ≡ took_line (H.Bytes n) (up_to_lf (drop at chunk)) line)
  unfolding taken took_held took_line
  split-full n l =
      let u : leb (n + length (up_to_lf (drop at chunk))) line_digits ≡ false = lt-leb (n + length (up_to_lf (drop at chunk))) line_digits (omega (arith, taken-count)) in
      (rw (u, found), rw u)

  pub split-copied : (n : ℕ) (m : List ℕ) → n + (e - at) ≤ line_digits
      → m ≡ over n (length (take (e - at) (drop at chunk))) (take (e - at) (drop at chunk)) line
      → (◌≡◌ {A = Taken} (record { held = H.Bytes (n + (e - at)); at = e }) (taken (H.Bytes n) chunk at)) × (m ≡ took_line (H.Bytes n) (up_to_lf (drop at chunk)) line)
  unfolding taken took_held took_line
  split-copied n m l put =
      let q : List ℕ = up_to_lf (drop at chunk) in
      let u : leb (n + length q) line_digits ≡ true = le-leb (n + length q) line_digits (omega (arith, taken-count)) in
      let same : take (e - at) (drop at chunk) ≡ q = ap (λ (k : ℕ). take k (drop at chunk)) (sym taken-count ∙ length_up (drop at chunk)) ∙ up_is (drop at chunk) in
      (rw (u, taken-count) (ap (λ (x : ℕ). record { held = H.Bytes (n + (e - at)); at = x }) found), put ∙ rw (u, same))
