-- Reads one after the other: what one leaves, the next goes on from; and what they leave from the start of a log.
use mathlib.Core.Path.{◌≡◌, refl, sym, ap, ◌∙◌, subst, subst⁻¹}
use mathlib.Core.Bool.{Bool, true, false, false≢true}
use mathlib.Core.List.{List, [], ◌++◌, append_assoc, append-nil}
use Prim.Native.Nat.{ℕ, ◌+◌, ◌-◌}
use native.Mathlib.Omega.{arith}
use lib.ListN.{length, take, length-append, length-take}
use lib.Seq.{take-length}
use Rattle.layout.specs.Fresh.{fresh, post_boot}
use Rattle.layout.specs.Valid.{Valid}
use Rattle.layout.proofs.Freshes.{fresh-good}
use Rattle.layout.proofs.Goods.{saved-valid}
use Rattle.log_writer.specs.Tally.{tallied}
use Rattle.log_chunks.specs.Events.{Event, events_of, unit_after}
use Rattle.log_chunks.specs.Texts.{refused_or, picture_lines, plate_text}
use Rattle.log_chunks.specs.Steps.{Desk, desk, begun, to_end, Fit}
use Rattle.log_reading.specs.declared.Reading.{Reading}
use Rattle.log_chunks.proofs.Whole.{begins, begins-end}
use Rattle.log_reader.specs.Fed.{LentSizes}
use Rattle.log_reader.specs.Read.{text_of, Behind, reads_on, Point, point, tells_from, Begins, Onward, Finished, Cut, Halted, Stands, Turned, ReadWhole, Reached}
use Rattle.log_reader.specs.declared.Read.{Read}
use Rattle.log_writer.specs.declared.State.{State}
use Rattle.log_writer.specs.declared.State.TheVariants.{Well, Failed, Refused}
use Rattle.log_reader.proofs.Printing.{text-quiet, text-append, printed-on, printed-cut, front, passed_on, stopped_on}
use Rattle.log_reader.proofs.Feeding.{goes_none}

-- ---- one after the other

module _ (quiet : Bool) (p q z : Point) (a b : List ℕ) (o : Onward quiet p a q) where
  abbrev es : List Event
  es = o.events

  tells_both : (rest : List ℕ) (fs more : List Event) → tells_from q (b ++ rest) ≡ fs ++ more → tells_from p ((a ++ b) ++ rest) ≡ (es ++ fs) ++ more
  tells_both rest fs more h =
      ap (tells_from p) (append_assoc a b rest) ∙ o.goes.tells (b ++ rest) ∙ ap (λ (l : List Event). es ++ l) h ∙ sym (append_assoc es fs more)

  ends-both : (rest : List ℕ) → to_end p.reading p.desk ((a ++ b) ++ rest) ≡ to_end q.reading q.desk (b ++ rest)
  ends-both rest = ap (to_end p.reading p.desk) (append_assoc a b rest) ∙ o.goes.ends (b ++ rest)

  onward-on : Onward quiet q b z → Onward quiet p (a ++ b) z
  onward-on k = record {
    events = es ++ k.events;
    goes = record {
      tells = λ rest. tells_both rest k.events (tells_from z rest) (k.goes.tells rest);
      ends = λ rest. ends-both rest ∙ k.goes.ends rest;
      prints = printed-on quiet p.tally q.tally es k.events o.goes.prints z.tally k.goes.prints;
      passes = λ s. passed_on es k.events (o.goes.passes s) (k.goes.passes s);
    };
    played = k.played;
  }

  done_on : Finished quiet q b z → Finished quiet p (a ++ b) z
  done_on k = record {
    events = es ++ k.events;
    tells = o.goes.tells b ∙ ap (λ (l : List Event). es ++ l) k.tells;
    ends = o.goes.ends b ∙ k.ends;
    prints = printed-on quiet p.tally q.tally es k.events o.goes.prints z.tally k.prints;
    passes = λ s. passed_on es k.events (o.goes.passes s) (k.passes s);
  }

  begins-on : (ended : Bool) (fs : List Event) → Begins ended q b fs → Begins ended p (a ++ b) (es ++ fs)
  begins-on ended fs k = λ rest h. ((k rest h).0, tells_both rest fs (k rest h).0 (k rest h).1)

  silent : quiet ≡ true → q.tally ≡ p.tally
  unfolding tallied
  silent s = o.goes.prints ∙ ap (tallied p.tally) (text-quiet quiet es s)

  pub outcome-on : (s : State) (ended : Bool) → Stands s ended quiet q b z → Stands s ended quiet p (a ++ b) z
  unfolding Stands
  outcome-on Well false k = onward-on k
  outcome-on Well true k = done_on k
  outcome-on Failed ended k = record {
    events = es ++ k.events;
    begins = begins-on ended k.events k.begins;
    size = length (text_of quiet es) + k.size;
    prints = printed-cut quiet p.tally q.tally es k.events o.goes.prints z.tally k.size k.prints;
  }
  outcome-on Refused ended k = record {
    events = es ++ k.events;
    begins = begins-on ended k.events k.begins;
    stops = stopped_on es k.events (z.reading.number - 1) (o.goes.passes k.still) k.stops;
    still = k.still;
    prints = k.prints ∙ silent k.still;
  }

-- ---- at the start of a log

-- nothing came yet
pub onward_none : (quiet : Bool) (d : Desk) (t : ℕ) → Onward quiet (point begun d t) [] (point begun d t)
onward_none quiet d t = record { events = []; goes = goes_none quiet (point begun d t) []; played = omega arith }

-- what came is told, and no more will be
pub onward-cut : (quiet : Bool) (p q : Point) (a : List ℕ) → Onward quiet p a q → Stands Failed false quiet p a q
unfolding Stands
onward-cut quiet p q a o = record {
  events = o.events;
  begins = λ rest h. (tells_from q rest, o.goes.tells rest);
  size = length (text_of quiet o.events);
  prints = o.goes.prints ∙ ap (tallied p.tally) (sym (take-length (text_of quiet o.events)));
}

-- a read that does not go on has not left it open
pub onward_well : (quiet : Bool) (s : State) (ended : Bool) (p q : Point) (a : List ℕ) → reads_on s ended ≡ true → Stands s ended quiet p a q → Onward quiet p a q
unfolding Stands
onward_well quiet Well false p q a e k = k
onward_well quiet Well true p q a e k = absurd (false≢true e)
onward_well quiet Failed false p q a e k = absurd (false≢true e)
onward_well quiet Failed true p q a e k = absurd (false≢true e)
onward_well quiet Refused false p q a e k = absurd (false≢true e)
onward_well quiet Refused true p q a e k = absurd (false≢true e)

module _ (quiet : Bool) (d : Desk) (t : ℕ) (boot : d.block ≡ post_boot) (z : Point) (input : List ℕ) where
  abbrev start : Point
  start = point begun d t

  events-are : (ended : Bool) (es : List Event) → Begins ended start input es → (rest : List ℕ) → Behind ended rest → (more : List Event) × (events_of (input ++ rest) ≡ es ++ more)
  events-are ended es b rest h = ((b rest h).0, sym (begins d boot (input ++ rest)) ∙ (b rest h).1)

  whole : Finished quiet start input z → ReadWhole quiet input z.desk.block t z.tally
  unfolding plate_text refused_or
  whole k =
      let e : events_of input ≡ k.events = sym (begins d boot input) ∙ k.tells in
      record {
        unit_is = sym k.ends ∙ begins-end d boot input;
        prints = k.prints ∙ ap (λ (l : List Event). tallied t (text_of quiet l)) (sym e);
        passes = λ s.
            ap (λ (l : List Event). refused_or l (picture_lines (unit_after input))) (e ∙ sym (append-nil k.events))
            ∙ k.passes s [] (picture_lines (unit_after input));
      }

  cut : (ended : Bool) → Cut ended quiet start input z → Reached Failed ended quiet input z.reading z.desk.block t z.tally
  unfolding Reached
  cut ended k =
      let a : List ℕ = text_of quiet k.events in (
        length (take k.size a),
        λ rest h.
            let more = events-are ended k.events k.begins rest h in
            let is : text_of quiet (events_of (input ++ rest)) ≡ a ++ text_of quiet more.0 = ap (text_of quiet) more.1 ∙ text-append quiet k.events more.0 in (
              omega (arith, length-take k.size a, ap (λ (l : List ℕ). length l) is, length-append a (text_of quiet more.0)),
              k.prints ∙ ap (tallied t) (sym (front k.size a (text_of quiet more.0)) ∙ ap (take (length (take k.size a))) (sym is)),
            ),
      )

  halted : (ended : Bool) → Halted ended quiet start input z → Reached Refused ended quiet input z.reading z.desk.block t z.tally
  unfolding Reached plate_text
  halted ended k = (
    k.still,
    (
      k.prints,
      λ rest h.
          let more = events-are ended k.events k.begins rest h in
          ap (λ (l : List Event). refused_or l (picture_lines (unit_after (input ++ rest)))) more.1 ∙ k.stops more.0 (picture_lines (unit_after (input ++ rest))),
    ),
  )

  pub reached : (s : State) (ended : Bool) → reads_on s ended ≡ false → Stands s ended quiet start input z → Reached s ended quiet input z.reading z.desk.block t z.tally
  unfolding Stands
  reached Well false e k = absurd (false≢true (sym e))
  reached Well true e k = unfold Reached in whole k
  reached Failed ended e k = cut ended k
  reached Refused ended e k = halted ended k

-- ---- a fresh unit and the buffers of the programs

boot-valid : (b : List ℕ) → b ≡ post_boot → Valid b
unfolding post_boot
boot-valid b e = saved-valid (fresh true) (fresh-good true) b e

pub boot-fit : (d : Desk) (b : List ℕ) → LentSizes d → b ≡ post_boot → Fit begun (desk b d.line d.bytes d.command)
boot-fit d b s e = record {
  valid = boot-valid b e;
  line_long = s.line_long;
  bytes_long = s.bytes_long;
  command_long = omega (arith, s.command_long);
  held_fits = omega arith;
  from_fits = omega arith;
  upto_fits = omega arith;
  number_fits = omega arith;
}

-- ---- the reads so far

pub record SoFar (quiet : Bool) (p : Point) (f : Read) (q : Point) : Type 0 where
  pub input : List ℕ
  pub counts : length input ≡ f.got
  pub onward : Onward quiet p input q
  pub fit : Fit q.reading q.desk

pub so_far_none : (quiet : Bool) (d : Desk) (t : ℕ) (r : Reading) → r ≡ begun → Fit begun d → SoFar quiet (point begun d t) (record { reading = r; state = Well; got = 0; ended = false }) (point r d t)
so_far_none quiet d t r e f =
    subst⁻¹ (λ (x : Reading). SoFar quiet (point begun d t) (record { reading = x; state = Well; got = 0; ended = false }) (point x d t)) e
    (record { input = []; counts = refl; onward = onward_none quiet d t; fit = f })

-- a read that failed
pub cut_none : (quiet : Bool) (p : Point) → Stands Failed false quiet p [] p
unfolding Stands tallied
cut_none quiet p = record { events = []; begins = λ rest h. (tells_from p rest, refl); size = 0; prints = refl }

module _ (quiet : Bool) (p q z : Point) (f g : Read) (came : List ℕ) (so_far : SoFar quiet p f q) (k : Turned quiet f q came g z) where
  counted : length (so_far.input ++ came) ≡ g.got
  counted = length-append so_far.input came ∙ omega (arith, so_far.counts, k.counts)

  all : Stands g.state g.ended quiet p (so_far.input ++ came) z
  all = outcome-on quiet p q z so_far.input came so_far.onward g.state g.ended k.outcome

  pub so-far-on : reads_on g.state g.ended ≡ true → SoFar quiet p g z
  so-far-on e = record { input = so_far.input ++ came; counts = counted; onward = onward_well quiet g.state g.ended p z (so_far.input ++ came) e all; fit = k.fit }

  pub so-far-ends : (d : Desk) (t : ℕ) → p ≡ point begun d t → d.block ≡ post_boot → reads_on g.state g.ended ≡ false
      → (input : List ℕ) × ((length input ≡ g.got) × Reached g.state g.ended quiet input z.reading z.desk.block t z.tally)
  so-far-ends d t is boot e = (
    so_far.input ++ came,
    (counted, reached quiet d t boot z (so_far.input ++ came) g.state g.ended e (subst (λ (x : Point). Stands g.state g.ended quiet x (so_far.input ++ came) z) is all)),
  )

-- and no more are made
pub so_far-stops : (quiet : Bool) (d : Desk) (t : ℕ) (f : Read) (q : Point) → SoFar quiet (point begun d t) f q → d.block ≡ post_boot
    → (input : List ℕ) × ((length input ≡ f.got) × Reached Failed false quiet input q.reading q.desk.block t q.tally)
so_far-stops quiet d t f q k boot =
    (k.input, (k.counts, reached quiet d t boot q k.input Failed false refl (onward-cut quiet (point begun d t) q k.input k.onward)))
