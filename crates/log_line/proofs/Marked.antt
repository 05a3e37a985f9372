-- A held line grows by what comes up to the next LF, however the input is cut (`marked_more`, `marked-line`, `chunks_give-lines`); and
-- marked lines mean what the lines mean (`marked-meanings`).
use Prim.Native.Nat.{ℕ, suc, ◌≤◌, ◌<◌}
use mathlib.Core.Bool.{Bool, true, false, cond}
use mathlib.Core.Path.{◌≡◌, refl, ap, sym, ◌∙◌}
use mathlib.Core.Option.{Option, none, some}
use mathlib.Core.List.{List, [], ◌∷◌, ◌++◌, map, append_assoc, append-nil}
use native.Mathlib.Omega.{arith}
use borrow.Author.Tests.{le-leb, lt-leb, leb-true, leb-false}
use lib.Dec.{leb, eqb}
use lib.ListN.{length, length-append}
use Rattle.log_line.specs.Find.{index_of, index_after}
use Rattle.log_line.specs.Line.{line_digits, meaning_of}
use Rattle.log_line.specs.Lines.{last_line, lines_from, lines_of, mark, grown, last_marked, marked_from, meaning_marked}
use Rattle.log_line.proofs.Form.{refused_too_long}

-- ---- marks

-- a line that is held is no longer than memory
unfoldable pub Kept : Option (List ℕ) → Type 0
Kept none = Unit {0}
Kept (some p) = length p ≤ line_digits

pub kept-nil : Kept (some [])
unfolding Kept
kept-nil = omega arith

pub mark-short : (p : List ℕ) → length p ≤ line_digits → mark p ≡ some p
unfolding mark
mark-short p h = rw (le-leb (length p) line_digits h)

pub mark-long : (p : List ℕ) → line_digits < length p → mark p ≡ none
unfolding mark
mark-long p h = rw (lt-leb (length p) line_digits h)

kept-mark : (p : List ℕ) → Kept (mark p)
unfolding mark Kept
kept-mark p = go (leb (length p) line_digits) refl where
  go : (t : Bool) → leb (length p) line_digits ≡ t → Kept (cond t (some p) none)
  go true e = leb-true (length p) line_digits e
  go false e = tt

pub kept-grown : (h : Option (List ℕ)) (q : List ℕ) → Kept (grown h q)
unfolding grown Kept
kept-grown none q = tt
kept-grown (some p) q = kept-mark (p ++ q)

pub grown-nil : (h : Option (List ℕ)) → Kept h → grown h [] ≡ h
unfolding grown Kept
grown-nil none k = refl
grown-nil (some p) k = ap mark (append-nil p) ∙ mark-short p k

grown-mark : (p q : List ℕ) → grown (mark p) q ≡ mark (p ++ q)
unfolding grown
grown-mark p q = go (leb (length p) line_digits) refl where
  go : (t : Bool) → leb (length p) line_digits ≡ t → grown (mark p) q ≡ mark (p ++ q)
  go true e = ap (λ (o : Option (List ℕ)). grown o q) (mark-short p (leb-true (length p) line_digits e))
  go false e =
      let l : line_digits < length p = leb-false (length p) line_digits e in
      ap (λ (o : Option (List ℕ)). grown o q) (mark-long p l) ∙ sym (mark-long (p ++ q) (simp length-append (omega arith)))

pub grown-grown : (h : Option (List ℕ)) (q r : List ℕ) → grown (grown h q) r ≡ grown h (q ++ r)
unfolding grown
grown-grown none q r = refl
grown-grown (some p) q r = grown-mark (p ++ q) r ∙ ap mark (append_assoc p q r)

-- ---- a part of the input

-- p has no LF
abbrev pub NoLf : List ℕ → Type 0
NoLf p = index_of 10 p ≡ length p

no-lf-tail : (b : ℕ) (p : List ℕ) → NoLf (b ∷ p) → (eqb b 10 ≡ false) × NoLf p
unfolding index_of index_after
no-lf-tail b p n = go (eqb b 10) n where
  go : (t : Bool) → index_after t (index_of 10 p) ≡ suc (length p) → (t ≡ false) × (index_of 10 p ≡ length p)
  go true e = absurd (omega arith)
  go false e = (refl, omega arith)

-- a part without LF joins the held line
pub marked_more : (p rest : List ℕ) (h : Option (List ℕ)) → Kept h → NoLf p → marked_from h (p ++ rest) ≡ marked_from (grown h p) rest
unfolding marked_from
marked_more [] rest h k n = ap (λ (o : Option (List ℕ)). marked_from o rest) (sym (grown-nil h k))
marked_more (b ∷ p) rest h k n =
    let e : eqb b 10 ≡ false = (no-lf-tail b p n).0 in
    rw e
    (marked_more p rest (grown h (b ∷ [])) (kept-grown h (b ∷ [])) (no-lf-tail b p n).1
    ∙ ap (λ (o : Option (List ℕ)). marked_from o rest) (grown-grown h (b ∷ []) p))

-- an LF ends the held line
pub marked-lf : (h : Option (List ℕ)) (s : List ℕ) → marked_from h (10 ∷ s) ≡ h ∷ marked_from (some []) s
unfolding marked_from
marked-lf h s = refl

-- a part without LF, and an LF
pub marked-line : (p rest : List ℕ) (h : Option (List ℕ)) → Kept h → NoLf p → marked_from h (p ++ (10 ∷ rest)) ≡ grown h p ∷ marked_from (some []) rest
marked-line p rest h k n = marked_more p (10 ∷ rest) h k n ∙ marked-lf (grown h p) rest

-- at the end a held line that is not empty is as one with its LF
pub marked-last : (h : Option (List ℕ)) → (h ≡ some [] → ⊥) → marked_from h [] ≡ marked_from h (10 ∷ [])
unfolding marked_from last_marked
marked-last none n = refl
marked-last (some []) n = absurd (n refl)
marked-last (some (x ∷ p)) n = refl

pub marked_none : marked_from (some []) [] ≡ []
unfolding marked_from last_marked
marked_none = refl

-- ---- what marked lines mean

meaning-mark : (p : List ℕ) → meaning_marked (mark p) ≡ meaning_of p
unfolding mark meaning_marked
meaning-mark p = go (leb (length p) line_digits) refl where
  go : (t : Bool) → leb (length p) line_digits ≡ t → meaning_marked (cond t (some p) none) ≡ meaning_of p
  go true e = refl
  go false e = sym (refused_too_long p (leb-false (length p) line_digits e))

last-marked : (p : List ℕ) → last_marked (mark p) ≡ map mark (last_line p)
unfolding last_marked last_line mark
last-marked [] = refl
last-marked (x ∷ p) = go (leb (length (x ∷ p)) line_digits) where
  go : (t : Bool) → last_marked (cond t (some (x ∷ p)) none) ≡ cond t (some (x ∷ p)) none ∷ []
  go true = refl
  go false = refl

-- bounded memory hands on the lines of the input, with the too long ones marked
pub marked-lines : (p s : List ℕ) → marked_from (mark p) s ≡ map mark (lines_from p s)
unfolding marked_from lines_from
marked-lines p [] = last-marked p
marked-lines p (b ∷ s) = go (eqb b 10) (marked-lines [] s) (marked-lines (p ++ (b ∷ [])) s) where
  go : (t : Bool) → marked_from (mark []) s ≡ map mark (lines_from [] s) → marked_from (mark (p ++ (b ∷ []))) s ≡ map mark (lines_from (p ++ (b ∷ [])) s)
      → cond t (mark p ∷ marked_from (some []) s) (marked_from (grown (mark p) (b ∷ [])) s) ≡ map mark (cond t (p ∷ lines_from [] s) (lines_from (p ++ (b ∷ [])) s))
  go true i j = ap (λ (l : List (Option (List ℕ))). mark p ∷ l) (ap (λ (o : Option (List ℕ)). marked_from o s) (sym (mark-short [] (omega arith))) ∙ i)
  go false i j = ap (λ (o : Option (List ℕ)). marked_from o s) (grown-mark p (b ∷ [])) ∙ j

meanings-mark : (ls : List (List ℕ)) → map meaning_marked (map mark ls) ≡ map meaning_of ls
meanings-mark [] = refl
meanings-mark (l ∷ ls) = rw (meaning-mark l, meanings-mark ls)

-- and so with the right meanings
pub marked-meanings : (s : List ℕ) → map meaning_marked (marked_from (some []) s) ≡ map meaning_of (lines_of s)
unfolding lines_of
marked-meanings s =
    ap (λ (o : Option (List ℕ)). map meaning_marked (marked_from o s)) (sym (mark-short [] (omega arith)))
    ∙ ap (map meaning_marked) (marked-lines [] s)
    ∙ meanings-mark (lines_from [] s)

-- ---- however the input is cut into chunks

-- the lines that a chunk ends, and the line that is held after it
unfoldable pub handed : Option (List ℕ) → List ℕ → List (Option (List ℕ))
handed h [] = []
handed h (b ∷ c) = cond (eqb b 10) (h ∷ handed (some []) c) (handed (grown h (b ∷ [])) c)

unfoldable pub held_after : Option (List ℕ) → List ℕ → Option (List ℕ)
held_after h [] = h
held_after h (b ∷ c) = cond (eqb b 10) (held_after (some []) c) (held_after (grown h (b ∷ [])) c)

handed_on : (h : Option (List ℕ)) (c rest : List ℕ) → marked_from h (c ++ rest) ≡ handed h c ++ marked_from (held_after h c) rest
unfolding marked_from handed held_after
handed_on h [] rest = refl
handed_on h (b ∷ c) rest = go (eqb b 10) (handed_on (some []) c rest) (handed_on (grown h (b ∷ [])) c rest) where
  go : (t : Bool) → marked_from (some []) (c ++ rest) ≡ handed (some []) c ++ marked_from (held_after (some []) c) rest
      → marked_from (grown h (b ∷ [])) (c ++ rest) ≡ handed (grown h (b ∷ [])) c ++ marked_from (held_after (grown h (b ∷ [])) c) rest
      → cond t (h ∷ marked_from (some []) (c ++ rest)) (marked_from (grown h (b ∷ [])) (c ++ rest))
      ≡ cond t (h ∷ handed (some []) c) (handed (grown h (b ∷ [])) c) ++ marked_from (cond t (held_after (some []) c) (held_after (grown h (b ∷ [])) c)) rest
  go true i j = ap (λ (l : List (Option (List ℕ))). h ∷ l) i
  go false i j = j

unfoldable pub joined : List (List ℕ) → List ℕ
joined [] = []
joined (c ∷ cs) = c ++ joined cs

-- the lines handed on, chunk after chunk, and the last one at the end
unfoldable pub handed_all : Option (List ℕ) → List (List ℕ) → List (Option (List ℕ))
handed_all h [] = last_marked h
handed_all h (c ∷ cs) = handed h c ++ handed_all (held_after h c) cs

handed-all : (h : Option (List ℕ)) (cs : List (List ℕ)) → handed_all h cs ≡ marked_from h (joined cs)
unfolding handed_all joined marked_from
handed-all h [] = refl
handed-all h (c ∷ cs) = rw (handed-all (held_after h c) cs) (sym (handed_on h c (joined cs)))

-- are the lines of the whole input, with the too long ones marked
pub chunks_give-lines : (cs : List (List ℕ)) → handed_all (some []) cs ≡ map mark (lines_of (joined cs))
unfolding lines_of
chunks_give-lines cs = handed-all (some []) cs ∙ ap (λ (o : Option (List ℕ)). marked_from o (joined cs)) (sym (mark-short [] (omega arith))) ∙ marked-lines [] (joined cs)
