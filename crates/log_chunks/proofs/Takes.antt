-- A step that takes more of the chunk tells the line that ended with it.
use mathlib.Core.Path.{◌≡◌, refl, sym, ap, ◌∙◌}
use mathlib.Core.Bool.{Bool, true, false}
use mathlib.Core.List.{List, [], ◌∷◌, ◌++◌, map}
use mathlib.Core.Option.{Option, none, some}
use Prim.Native.Nat.{ℕ, suc, ◌+◌, ◌-◌, ◌≤◌, ◌<◌}
use native.Mathlib.Omega.{arith}
use borrow.Author.Tests.{ltb-true, ltb-false, leb-true, eqb-true}
use lib.Dec.{ltb, leb, eqb}
use Rattle.bits.proofs.Tests.{either}
use Rattle.hex_digits.specs.Hex.{bytes_of}
use lib.ListN.{length, take, drop, drop_of_length-le}
use lib.Seq.{take_at}
use Rattle.bits.specs.Over.{over}
use Rattle.layout.specs.Block.{load, save}
use Rattle.layout.specs.Sgb.{Sgb}
use Rattle.layout.specs.Valid.{Valid}
use Rattle.layout.proofs.Goods.{valid-good, good-back}
use Rattle.rules.specs.Screen.{screened}
use Rattle.rules.proofs.Keeps.{good-screened}
use Rattle.parts.specs.Parts.{capture_bytes}
use Rattle.log_line.specs.Line.{Meaning, writes, screen, refused, by_kind, by_bytes, meaning_of}
use Rattle.log_line.specs.Lines.{marked_from, meaning_marked, grown}
use Rattle.log_line.specs.Split.{held_as, taken, took_held, took_line, up_to_lf, lf_at}
use Rattle.log_line.specs.Calls.{filled}
use Rattle.log_line.proofs.Splitting.{lines-lf, lines_end, kept-held, took-grown}
use Rattle.log_chunks.specs.Events.{Event, write_events, after_writes, line_events, after_line, events_from, after_lines}
use Rattle.log_chunks.specs.Steps.{Desk, Stepped, pending, ended_as, ended, took, took_on, holding, with_line, told_by, events_on, to_tell, to_end, Fit}
use Rattle.log_reading.specs.declared.Reading.{Reading}
use Rattle.log_chunks.specs.declared.Told.TheVariants.{Nothing}

-- ---- a line's meaning: its writes and its screen fit the buffer

unfoldable pub Fits : Meaning → Type 0
Fits (writes ws) = length ws ≤ capture_bytes
Fits (screen x) = length x ≡ capture_bytes
Fits refused = Unit {0}

fits-kind : (b : List ℕ) → Fits (by_kind b)
unfolding by_kind Fits
fits-kind [] = tt
fits-kind (k ∷ b) =
    either Fits (eqb k 1) (λ e. either Fits (leb (length b) capture_bytes) (λ h. leb-true (length b) capture_bytes h) (λ h. tt))
    (λ e. either Fits (eqb k 2) (λ g. either Fits (eqb (length b) capture_bytes) (λ h. eqb-true (length b) capture_bytes h) (λ h. tt)) (λ g. tt))

fits-bytes : (o : Option (List ℕ)) → Fits (by_bytes o)
unfolding by_bytes
fits-bytes none = unfold Fits in tt
fits-bytes (some b) = fits-kind b

pub fits_line : (s : List ℕ) → Fits (meaning_of s)
unfolding meaning_of
fits_line s = fits-bytes (bytes_of s)

pub fits_marked : (h : Option (List ℕ)) → Fits (meaning_marked h)
unfolding meaning_marked meaning_of
fits_marked none = unfold Fits in tt
fits_marked (some p) = fits-bytes (bytes_of p)

-- ---- a line has ended, behind which the input goes on with `rest`

module _ (r : Reading) (d : Desk) (at : ℕ) (rest : List ℕ) (valid : Valid d.block) where
  abbrev more : Sgb → ℕ → List Event
  more v k = events_from v k (map meaning_marked (marked_from (some []) rest))

  abbrev last : Sgb → Sgb
  last v = after_lines v (map meaning_marked (marked_from (some []) rest))

  ends_as : (m : Meaning) → Fits m
      → line_events (load d.block) r.number m ++ more (after_line (load d.block) m) (suc r.number)
      ≡ events_on (ended_as m r d at) ++ to_tell (ended_as m r d at).reading (ended_as m r d at).desk rest
  unfolding Fits line_events after_line ended_as events_on told_by to_tell pending held_as filled write_events after_writes
  ends_as (writes ws) f =
      let e : take (length ws - 0) (drop 0 (over 0 (length ws) ws d.bytes)) ≡ ws = take_at ws (drop (length ws) d.bytes) (length ws - 0) (omega arith) in
      let k : r.number + 1 ≡ suc r.number = omega arith in
      rw (e, k)
  ends_as (screen x) f =
      let k : r.number + 1 ≡ suc r.number = omega arith in
      let e : load (save (screened (load d.block) x)) ≡ screened (load d.block) x = good-back _ (good-screened (load d.block) x f (valid-good d.block valid.tested)) in
      rw (e, k)
  ends_as refused f =
      let k : r.number + 1 ≡ suc r.number = omega arith in
      let e : r.number + 1 - 1 ≡ r.number = omega arith in
      rw (e, k)

  ends_at : (m : Meaning) → Fits m → last (after_line (load d.block) m) ≡ to_end (ended_as m r d at).reading (ended_as m r d at).desk rest
  unfolding Fits after_line ended_as to_end pending held_as filled after_writes
  ends_at (writes ws) f =
      let e : take (length ws - 0) (drop 0 (over 0 (length ws) ws d.bytes)) ≡ ws = take_at ws (drop (length ws) d.bytes) (length ws - 0) (omega arith) in
      rw e
  ends_at (screen x) f =
      let e : load (save (screened (load d.block) x)) ≡ screened (load d.block) x = good-back _ (good-screened (load d.block) x f (valid-good d.block valid.tested)) in
      rw e
  ends_at refused f = refl

pub ended_at : (m : Meaning) (r : Reading) (d : Desk) (at : ℕ) → (ended_as m r d at).at ≡ at
unfolding ended_as
ended_at (writes ws) r d at = refl
ended_at (screen x) r d at = refl
ended_at refused r d at = refl

-- ---- more of the chunk is taken

pub no-pending : (r : Reading) (bytes : List ℕ) → r.upto ≤ r.from → pending r bytes ≡ []
unfolding pending
no-pending r bytes h = let e : r.upto - r.from ≡ 0 = omega arith in rw e

module _ (r : Reading) (d : Desk) (chunk : List ℕ) (at : ℕ) (rest : List ℕ) (f : Fit r d) (inside : at ≤ length chunk) (none_left : r.upto ≤ r.from) where
  abbrev stop : ℕ
  stop = lf_at chunk at

  abbrev q : List ℕ
  q = up_to_lf (drop at chunk)

  abbrev r' : Reading
  r' = holding r (took_held r.held q)

  abbrev d' : Desk
  d' = with_line d (took_line r.held q d.line)

  -- the line that is held then
  abbrev h : Option (List ℕ)
  h = held_as r.held d.line

  abbrev h' : Option (List ℕ)
  h' = held_as r'.held d'.line

  grows : grown h q ≡ h'
  grows = sym (took-grown r.held d.line f.held_fits f.line_long q)

  abbrev behind : List ℕ
  behind = drop (stop + 1) chunk ++ rest

  -- it ends at an LF
  marks-lf : stop < length chunk → marked_from h (drop at chunk ++ rest) ≡ h' ∷ marked_from (some []) behind
  marks-lf l = lines-lf chunk at inside h (kept-held r.held d.line f.held_fits f.line_long) rest l ∙ ap (λ (o : Option (List ℕ)). o ∷ marked_from (some []) behind) grows

  -- or goes on behind the chunk
  marks-end : length chunk ≤ stop → marked_from h (drop at chunk ++ rest) ≡ marked_from h' (drop stop chunk ++ rest)
  marks-end l =
      lines_end chunk at inside h (kept-held r.held d.line f.held_fits f.line_long) rest l
      ∙ ap (λ (o : Option (List ℕ)). marked_from o rest) grows
      ∙ ap (λ (z : List ℕ). marked_from h' (z ++ rest)) (sym (drop_of_length-le chunk {i = stop} l))

  abbrev S : Stepped
  S = ended_as (meaning_marked h') r' d' (stop + 1)

  abbrev held-only : Stepped
  held-only = record { reading = r'; at = stop; told = Nothing; desk = d' }

  -- what is told

  abbrev events : List (Option (List ℕ)) → List Event
  events ms = events_from (load d.block) r.number (map meaning_marked ms)

  tells : to_tell r d (drop at chunk ++ rest) ≡ events (marked_from h (drop at chunk ++ rest))
  unfolding to_tell write_events after_writes
  tells = rw (no-pending r d.bytes none_left)

  line-tells : stop < length chunk → to_tell r d (drop at chunk ++ rest) ≡ events_on S ++ to_tell S.reading S.desk (drop S.at chunk ++ rest)
  unfolding events_from
  line-tells l =
      let k : events (h' ∷ marked_from (some []) behind) ≡ events_on S ++ to_tell S.reading S.desk behind = ends_as r' d' (stop + 1) behind f.valid (meaning_marked h') (fits_marked h') in
      tells ∙ ap events (marks-lf l) ∙ k
      ∙ ap (λ (n : ℕ). events_on S ++ to_tell S.reading S.desk (drop n chunk ++ rest)) (sym (ended_at (meaning_marked h') r' d' (stop + 1)))

  hold-tells : length chunk ≤ stop → to_tell r d (drop at chunk ++ rest) ≡ events_on held-only ++ to_tell r' d' (drop stop chunk ++ rest)
  unfolding events_on told_by to_tell pending write_events after_writes
  hold-tells l = tells ∙ ap events (marks-end l)

  pub took-tells : to_tell r d (drop at chunk ++ rest)
      ≡ events_on (took_on r d chunk at) ++ to_tell (took_on r d chunk at).reading (took_on r d chunk at).desk (drop (took_on r d chunk at).at chunk ++ rest)
  unfolding took_on took taken ended
  took-tells = go (ltb stop (length chunk)) refl
    where
      go : (t : Bool) → ltb stop (length chunk) ≡ t
          → to_tell r d (drop at chunk ++ rest)
          ≡ events_on (took r' d' chunk stop t) ++ to_tell (took r' d' chunk stop t).reading (took r' d' chunk stop t).desk (drop (took r' d' chunk stop t).at chunk ++ rest)
      go true e = line-tells (ltb-true stop (length chunk) e)
      go false e = hold-tells (ltb-false stop (length chunk) e)

  -- the unit at the end

  abbrev final : List (Option (List ℕ)) → Sgb
  final ms = after_lines (load d.block) (map meaning_marked ms)

  ends : to_end r d (drop at chunk ++ rest) ≡ final (marked_from h (drop at chunk ++ rest))
  unfolding to_end after_writes
  ends = rw (no-pending r d.bytes none_left)

  line-ends : stop < length chunk → to_end r d (drop at chunk ++ rest) ≡ to_end S.reading S.desk (drop S.at chunk ++ rest)
  unfolding after_lines
  line-ends l =
      let k : final (h' ∷ marked_from (some []) behind) ≡ to_end S.reading S.desk behind = ends_at r' d' (stop + 1) behind f.valid (meaning_marked h') (fits_marked h') in
      ends ∙ ap final (marks-lf l) ∙ k ∙ ap (λ (n : ℕ). to_end S.reading S.desk (drop n chunk ++ rest)) (sym (ended_at (meaning_marked h') r' d' (stop + 1)))

  hold-ends : length chunk ≤ stop → to_end r d (drop at chunk ++ rest) ≡ to_end r' d' (drop stop chunk ++ rest)
  unfolding to_end pending after_writes
  hold-ends l = ends ∙ ap final (marks-end l)

  pub took-ends : to_end r d (drop at chunk ++ rest)
      ≡ to_end (took_on r d chunk at).reading (took_on r d chunk at).desk (drop (took_on r d chunk at).at chunk ++ rest)
  unfolding took_on took taken ended
  took-ends = go (ltb stop (length chunk)) refl
    where
      go : (t : Bool) → ltb stop (length chunk) ≡ t
          → to_end r d (drop at chunk ++ rest)
          ≡ to_end (took r' d' chunk stop t).reading (took r' d' chunk stop t).desk (drop (took r' d' chunk stop t).at chunk ++ rest)
      go true e = line-ends (ltb-true stop (length chunk) e)
      go false e = hold-ends (ltb-false stop (length chunk) e)
