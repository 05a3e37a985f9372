-- The input has ended: the LF that its last line may lack leaves nothing held, so that all is told.
use mathlib.Core.Path.{◌≡◌, refl, sym, ap, ◌∙◌, subst, subst⁻¹}
use mathlib.Core.Bool.{Bool, true, false, cond}
use mathlib.Core.List.{List, [], ◌∷◌, ◌++◌, map, append-nil}
use mathlib.Core.Option.{Option, some}
use Prim.Native.Nat.{ℕ, ◌+◌, ◌-◌, ◌≤◌}
use native.Mathlib.Omega.{arith}
use borrow.Author.Tests.{ltb-false}
use lib.Dec.{ltb}
use lib.ListN.{length, take, drop, length-append}
use Rattle.hex_digits.specs.Hex.{bytes_of}
use Rattle.layout.specs.Block.{load}
use Rattle.layout.specs.Sgb.{Sgb}
use Rattle.log_line.specs.Line.{meaning_of, by_bytes, by_kind}
use Rattle.log_line.specs.Lines.{marked_from, last_marked, meaning_marked}
use Rattle.log_line.specs.Split.{held_as}
use Rattle.log_line.specs.declared.lines.Held.{Held}
use Rattle.log_line.specs.declared.lines.Held.TheVariants as H
use Rattle.log_reading.specs.Point.{lf_behind}
use Rattle.log_chunks.specs.Events.{Event, line_events, events_from, write_events, after_writes}
use Rattle.log_chunks.specs.Steps.{Desk, pending, last_lf, to_tell, to_end, Fit}
use Rattle.log_reading.specs.declared.Reading.{Reading}
use Rattle.log_chunks.proofs.Prints.{last-tells, last-ends}
use Rattle.log_chunks.proofs.Whole.{all_told, all_done}
use Rattle.log_reader.specs.Read.{Behind, Point, tells_from, Begins, Goes, Onward, Finished, Stands}
use Rattle.log_writer.specs.declared.State.{State}
use Rattle.log_writer.specs.declared.State.TheVariants.{Well, Failed, Refused}

abbrev newline : List ℕ
newline = 10 ∷ []

-- the last LF is one byte, or none
behind-part : (h : Held) (k : ℕ) → k ≡ length (lf_behind h) → take (k - 0) (drop 0 newline) ≡ lf_behind h
unfolding lf_behind
behind-part H.Long k e = ap (λ (m : ℕ). take (m - 0) newline) e
behind-part (H.Bytes n) k e = go (ltb 0 n) k e
  where
    go : (u : Bool) (k : ℕ) → k ≡ length (cond u newline []) → take (k - 0) (drop 0 newline) ≡ cond u newline []
    go true k h = ap (λ (m : ℕ). take (m - 0) newline) h
    go false k h = ap (λ (m : ℕ). take (m - 0) newline) h

pub last-part : (r : Reading) (k : ℕ) → k ≡ length (last_lf r) → take (k - 0) (drop 0 newline) ≡ last_lf r
unfolding last_lf
last-part r k e = behind-part r.held k e

behind-short : (h : Held) → length (lf_behind h) ≤ 1
unfolding lf_behind
behind-short H.Long = omega arith
behind-short (H.Bytes n) = go (ltb 0 n)
  where
    go : (u : Bool) → length (cond u newline []) ≤ 1
    go true = omega arith
    go false = omega arith

pub last-short : (r : Reading) → length (last_lf r) ≤ 1
unfolding last_lf
last-short r = behind-short r.held

-- ---- nothing is held where no LF is lacking; and an LF behind a line that has ended is an empty line, which is refused

held-empty : (n : ℕ) (line : List ℕ) → ltb 0 n ≡ false → held_as (H.Bytes n) line ≡ some []
unfolding held_as
held-empty n line k =
    let z : n ≡ 0 = omega (arith, ltb-false 0 n k) in
    ap (λ (m : ℕ). some (take m line)) z

abbrev told_by : List Event → Sgb → ℕ → Option (List ℕ) → List ℕ → List Event
told_by w u n h rest = w ++ events_from u n (map meaning_marked (marked_from h rest))

ended-more : (w : List Event) (u : Sgb) (n : ℕ) (h : Option (List ℕ)) → length (told_by w u n h (10 ∷ newline)) ≡ length (told_by w u n h newline) + 1
unfolding marked_from last_marked events_from meaning_marked meaning_of bytes_of by_bytes by_kind line_events
ended-more w u n h = simp length-append (omega arith)

empty-more : (w : List Event) (u : Sgb) (n : ℕ) → length (told_by w u n (some []) newline) ≡ length (told_by w u n (some []) []) + 1
unfolding marked_from last_marked events_from meaning_marked meaning_of bytes_of by_bytes by_kind line_events
empty-more w u n = simp length-append (omega arith)

behind-more : (w : List Event) (u : Sgb) (n : ℕ) (h : Held) (line : List ℕ)
    → length (told_by w u n (held_as h line) (lf_behind h ++ newline)) ≡ length (told_by w u n (held_as h line) (lf_behind h)) + 1
unfolding lf_behind
behind-more w u n H.Long line = ended-more w u n (held_as H.Long line)
behind-more w u n (H.Bytes m) line = go (ltb 0 m) refl
  where
    go : (v : Bool) → ltb 0 m ≡ v
        → length (told_by w u n (held_as (H.Bytes m) line) (cond v newline [] ++ newline)) ≡ length (told_by w u n (held_as (H.Bytes m) line) (cond v newline [])) + 1
    go true k = ended-more w u n (held_as (H.Bytes m) line)
    go false k =
        subst⁻¹ (λ (h : Option (List ℕ)). length (told_by w u n h newline) ≡ length (told_by w u n h []) + 1) (held-empty m line k)
        (empty-more w u n)

lf-more : (r : Reading) (d : Desk) → length (to_tell r d (last_lf r ++ newline)) ≡ length (to_tell r d (last_lf r)) + 1
unfolding to_tell last_lf
lf-more r d = behind-more (write_events (load d.block) (pending r d.bytes)) (after_writes (load d.block) (pending r d.bytes)) r.number r.held d.line

behind-none : (h : Held) (line : List ℕ) → (lf_behind h ≡ newline → ⊥) → held_as h line ≡ some []
unfolding lf_behind
behind-none H.Long line lacks = absurd (lacks refl)
behind-none (H.Bytes n) line lacks = go (ltb 0 n) refl lacks
  where
    go : (v : Bool) → ltb 0 n ≡ v → (cond v newline [] ≡ newline → ⊥) → held_as (H.Bytes n) line ≡ some []
    go true k l = absurd (l refl)
    go false k l = held-empty n line k

-- so where a reading took the last LF, nothing is held
module _ (r : Reading) (d : Desk) (es : List Event) (r' : Reading) (d' : Desk) (fit : Fit r' d') (tells : (rest : List ℕ) → to_tell r d (last_lf r ++ rest) ≡ es ++ to_tell r' d' rest) where
  none-lacks : last_lf r' ≡ newline → ⊥
  none-lacks e =
      let same : to_tell r d (last_lf r ++ newline) ≡ to_tell r d (last_lf r) = tells newline ∙ ap (λ (l : List Event). es ++ l) (ap (to_tell r' d') (sym e) ∙ sym (last-tells r' d' fit)) ∙ sym (tells []) ∙ ap (to_tell r d) (append-nil (last_lf r)) in
      omega (arith, lf-more r d, ap (λ (l : List Event). length l) same)

  pub none-held : held_as r'.held d'.line ≡ some []
  unfolding last_lf
  none-held = behind-none r'.held d'.line none-lacks

-- ---- the outcome of the last LF is that of an input that has ended

module _ (quiet : Bool) (p q : Point) (f : Fit p.reading p.desk) (f' : Fit q.reading q.desk) where
  abbrev lf : List ℕ
  lf = last_lf p.reading

  begins-last : (es : List Event) → Begins false p lf es → Begins true p [] es
  unfolding Behind
  begins-last es b = λ rest none. (
    (b [] tt).0,
    ap (tells_from p) none ∙ last-tells p.reading p.desk f ∙ ap (tells_from p) (sym (append-nil lf)) ∙ (b [] tt).1,
  )

  done-last : Onward quiet p lf q → Finished quiet p [] q
  done-last o =
      let g : Goes quiet p lf o.events q [] = o.goes in
      let h : held_as q.reading.held q.desk.line ≡ some [] = none-held p.reading p.desk o.events q.reading q.desk f' (λ rest. g.tells rest) in
      record {
        events = o.events;
        tells = last-tells p.reading p.desk f ∙ ap (tells_from p) (sym (append-nil lf)) ∙ g.tells []
            ∙ ap (λ (l : List Event). o.events ++ l) (all_told q.reading q.desk o.played h) ∙ append-nil o.events;
        ends = last-ends p.reading p.desk f ∙ ap (to_end p.reading p.desk) (sym (append-nil lf)) ∙ g.ends [] ∙ all_done q.reading q.desk o.played h;
        prints = g.prints;
        passes = g.passes;
      }

  outcome-last : (s : State) → Stands s false quiet p lf q → Stands s true quiet p [] q
  unfolding Stands
  outcome-last Well o = done-last o
  outcome-last Failed o = record { events = o.events; begins = begins-last o.events o.begins; size = o.size; prints = o.prints }
  outcome-last Refused o = record { events = o.events; begins = begins-last o.events o.begins; stops = o.stops; still = o.still; prints = o.prints }

  pub outcome-ends : (s : State) (came : List ℕ) → came ≡ lf → Stands s false quiet p came q → Stands s true quiet p [] q
  outcome-ends s came e o = outcome-last s (subst (λ (l : List ℕ). Stands s false quiet p l q) e o)
