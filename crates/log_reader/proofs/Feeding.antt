-- A turn of feeding is a fill, told: it keeps what the steps of `log_chunks` require, leaves less to do, and goes on, or ends as `Stands` has it.
use mathlib.Core.Path.{◌≡◌, refl, sym, ap, ◌∙◌, subst, subst⁻¹}
use mathlib.Core.Bool.{Bool, true, false, cond, false≢true}
use mathlib.Core.List.{List, [], ◌++◌}
use Prim.Native.Nat.{ℕ, ◌+◌, ◌-◌, ◌*◌, ◌≤◌, ◌<◌}
use native.Mathlib.Omega.{arith}
use borrow.Author.Tests.{ltb-false}
use lib.Dec.{ltb}
use lib.ListN.{length, take, drop}
use lib.Seq.{drop-length}
use Rattle.bits.specs.Over.{over}
use Rattle.parts.specs.Parts.{capture_bytes}
use Rattle.log_text.proofs.Printed.{text-lent}
use Rattle.log_writer.specs.Tally.{tallied, Sent}
use Rattle.log_chunks.specs.Events.{Event}
use Rattle.log_chunks.specs.Texts.{shown}
use Rattle.log_chunks.specs.Steps.{Desk, Filling, fill, Full, left, step_room, to_tell, Fit}
use Rattle.log_chunks.specs.declared.Filled.{Filled}
use Rattle.log_reading.specs.declared.Reading.{Reading}
use Rattle.log_chunks.proofs.Fills.{Tells}
use Rattle.log_chunks.proofs.Fulls.{full-reading, full_at, full_size, full-refused, full-fit, full-within, full-numbered, full-less}
use Rattle.log_chunks.proofs.Prints.{Shape, fill_on, tells_on, fill_shape}
use Rattle.log_reader.specs.Fed.{Kept}
use Rattle.log_reader.specs.Read.{text_of, Unrefused, Stopped, is_well, ToldAs, Point, point, Goes, Cut, Halted, Stands}
use Rattle.log_writer.specs.declared.State.{State}
use Rattle.log_writer.specs.declared.State.TheVariants.{Well, Failed, Refused}
use Rattle.log_reader.proofs.Printing.{text_none, text-quiet, printed-on, printed-cut, passed_on, stopped_on, shape_passed, shape-stopped}

pub record Turn (quiet : Bool) (p : Point) (chunk : List ℕ) (q : Point) (at : ℕ) : Type 0 where
  pub events : List Event
  pub goes : Goes quiet p chunk events q (drop at chunk)
  pub fit : Fit q.reading q.desk
  pub within : at ≤ length chunk
  pub numbered : q.reading.number ≤ p.reading.number + at

-- nothing is told yet
pub goes_none : (quiet : Bool) (p : Point) (came : List ℕ) → Goes quiet p came [] p came
unfolding tallied
goes_none quiet p came = record { tells = λ rest. refl; ends = λ rest. refl; prints = ap (tallied p.tally) (sym (text_none quiet)); passes = λ e more picture. refl }

pub starts : (quiet : Bool) (p : Point) (chunk : List ℕ) → Fit p.reading p.desk → Turn quiet p chunk p 0
starts quiet p chunk f = record { events = []; goes = goes_none quiet p chunk; fit = f; within = omega arith; numbered = omega arith }

-- how it stands behind a fill that was told
abbrev pub Standing : Bool → Point → List ℕ → ℕ → State → Point → Type 0
Standing quiet p chunk at Well z = Turn quiet p chunk z at
Standing quiet p chunk at Failed z = Cut false quiet p chunk z
Standing quiet p chunk at Refused z = Halted false quiet p chunk z

module _ (quiet : Bool) (p q : Point) (chunk : List ℕ) (at : ℕ) (out : List ℕ) (g : Filled) (e : Desk) (out' : List ℕ) (t : Turn quiet p chunk q at)
    (f : Full q.reading q.desk chunk at out g e out') where
  abbrev F : Filling
  F = fill (length out) q.reading q.desk chunk at

  abbrev fs : List Event
  fs = F.events

  reading-is : g.reading ≡ F.reading
  reading-is = full-reading q.reading q.desk chunk at out g e out' t.fit t.within f

  at_is : g.at ≡ F.at
  at_is = full_at q.reading q.desk chunk at out g e out' t.fit t.within f

  size_is : g.size ≡ length (shown fs)
  size_is = full_size q.reading q.desk chunk at out g e out' t.fit t.within f

  refused-is : g.refused ≡ F.refused
  refused-is = full-refused q.reading q.desk chunk at out g e out' t.fit t.within f

  -- ---- what is kept

  pub filled-fit : Fit g.reading e
  filled-fit = full-fit q.reading q.desk chunk at out g e out' t.fit t.within f

  pub filled_within : g.at ≤ length chunk
  filled_within = full-within q.reading q.desk chunk at out g e out' t.fit t.within f

  pub filled-numbered : g.reading.number ≤ p.reading.number + g.at
  filled-numbered = omega (arith, full-numbered q.reading q.desk chunk at out g e out' t.fit t.within f, t.numbered)

  pub filled-kept : (s : State) → Kept p.reading (length chunk) (record { reading = g.reading; state = s }) e
  filled-kept s = record { fit = filled-fit; numbered = omega (arith, filled-numbered, filled_within) }

  pub filled-less : 0 < left q.reading (length chunk) at → step_room ≤ length out → left g.reading (length chunk) g.at < left q.reading (length chunk) at
  filled-less = full-less q.reading q.desk chunk at out g e out' t.fit t.within f

  -- ---- what is told

  abbrev Told : Reading → Desk → ℕ → Type 0
  Told x y n = (rest : List ℕ) → Tells p.reading p.desk (chunk ++ rest) (t.events ++ fs) x y (drop n chunk ++ rest)

  told : Told g.reading e g.at
  told =
      subst⁻¹ (λ (x : Reading). Told x e g.at) reading-is
      (subst⁻¹ (λ (y : Desk). Told F.reading y g.at) f.lends
      (subst⁻¹ (λ (n : ℕ). Told F.reading F.desk n) at_is
      (λ rest.
      tells_on p.reading q.reading F.reading p.desk q.desk F.desk (chunk ++ rest) (drop at chunk ++ rest) (drop F.at chunk ++ rest) t.events fs
      (record { tells = t.goes.tells rest; ends = t.goes.ends rest })
      (fill_on (length out) q.reading q.desk chunk at rest t.fit t.within))))

  shaped : Shape g.refused fs (g.reading.number - 1)
  shaped =
      subst⁻¹ (λ (b : Bool). Shape b fs (g.reading.number - 1)) refused-is
      (subst⁻¹ (λ (x : Reading). Shape F.refused fs (x.number - 1)) reading-is (fill_shape (length out) q.reading q.desk chunk at))

  text-is : (text : List ℕ) → text ≡ take (g.size - 0) (drop 0 out') → text ≡ shown fs
  text-is text h = h ∙ text-lent (shown fs) out out' g.size (sym size_is) (f.tells ∙ ap (λ (m : ℕ). over 0 m (shown fs) out) (sym size_is))

  -- ---- and then

  go_on : (t' : ℕ) → t' ≡ tallied q.tally (text_of quiet fs) → (quiet ≡ true → Unrefused fs) → Turn quiet p chunk (point g.reading e t') g.at
  go_on t' h pass = record {
    events = t.events ++ fs;
    goes = record {
      tells = λ rest. (told rest).tells;
      ends = λ rest. (told rest).ends;
      prints = printed-on quiet p.tally q.tally t.events fs t.goes.prints t' h;
      passes = λ s. passed_on t.events fs (t.goes.passes s) (pass s);
    };
    fit = filled-fit;
    within = filled_within;
    numbered = filled-numbered;
  }

  cut_off : (t' n : ℕ) → t' ≡ tallied q.tally (take n (text_of quiet fs)) → Cut false quiet p chunk (point g.reading e t')
  cut_off t' n h = record {
    events = t.events ++ fs;
    begins = λ rest b. (to_tell g.reading e (drop g.at chunk ++ rest), (told rest).tells);
    size = length (text_of quiet t.events) + n;
    prints = printed-cut quiet p.tally q.tally t.events fs t.goes.prints t' n h;
  }

  halt : (t' : ℕ) → quiet ≡ true → t' ≡ q.tally → Stopped fs (g.reading.number - 1) → Halted false quiet p chunk (point g.reading e t')
  unfolding tallied
  halt t' s h stop = record {
    events = t.events ++ fs;
    begins = λ rest b. (to_tell g.reading e (drop g.at chunk ++ rest), (told rest).tells);
    stops = stopped_on t.events fs (g.reading.number - 1) (t.goes.passes s) stop;
    still = s;
    prints = h ∙ t.goes.prints ∙ ap (tallied p.tally) (text-quiet quiet t.events s);
  }

  quietly : (t' : ℕ) → quiet ≡ true → t' ≡ q.tally → (r : Bool) → g.refused ≡ r → Standing quiet p chunk g.at (cond r Refused Well) (point g.reading e t')
  quietly t' s h true y = halt t' s h (shape-stopped fs (g.reading.number - 1) (subst (λ (b : Bool). Shape b fs (g.reading.number - 1)) y shaped))
  quietly t' s h false y = unfold tallied in
      go_on t' (h ∙ ap (tallied q.tally) (sym (text-quiet quiet fs s)))
      (λ z. shape_passed fs (g.reading.number - 1) (subst (λ (b : Bool). Shape b fs (g.reading.number - 1)) y shaped))

  loudly : (text : List ℕ) → text ≡ shown fs → (t' : ℕ) → quiet ≡ false → (sent : Bool) → Sent sent q.tally text t' → Standing quiet p chunk g.at (cond sent Well Failed) (point g.reading e t')
  loudly text is t' s true h = unfold Sent text_of in
      go_on t' (h ∙ ap (tallied q.tally) (is ∙ ap (λ (b : Bool). text_of b fs) (sym s))) (λ z. absurd (false≢true (sym s ∙ z)))
  loudly text is t' s false h = unfold Sent text_of in
      cut_off t' h.0 (h.1.1 ∙ ap (λ (l : List ℕ). tallied q.tally (take h.0 l)) (is ∙ ap (λ (b : Bool). text_of b fs) (sym s)))

  pub told-turn : (text : List ℕ) → text ≡ take (g.size - 0) (drop 0 out') → (t' : ℕ) (s : State) → ToldAs quiet g.refused q.tally text s t'
      → Standing quiet p chunk g.at s (point g.reading e t')
  told-turn text h t' s w = by quiet refl w
    where
      by : (b : Bool) → quiet ≡ b → ToldAs b g.refused q.tally text s t' → Standing quiet p chunk g.at s (point g.reading e t')
      by true y v = unfold ToldAs in
          subst⁻¹ (λ (x : State). Standing quiet p chunk g.at x (point g.reading e t')) v.0 (quietly t' y v.1 g.refused refl)
      by false y v = unfold ToldAs in
          subst⁻¹ (λ (x : State). Standing quiet p chunk g.at x (point g.reading e t')) v.1.0 (loudly text (text-is text h) t' y v.0 v.1.1)

-- ---- what `told` answers

-- ---- where feeding ends

pub stands_well : (quiet : Bool) (p : Point) (chunk : List ℕ) (at : ℕ) (s : State) (z : Point) → is_well s ≡ true → Standing quiet p chunk at s z → Turn quiet p chunk z at
stands_well quiet p chunk at Well z e h = h
stands_well quiet p chunk at Failed z e h = absurd (false≢true e)
stands_well quiet p chunk at Refused z e h = absurd (false≢true e)

pub stands_ill : (quiet : Bool) (p : Point) (chunk : List ℕ) (at : ℕ) (s : State) (z : Point) → is_well s ≡ false → Standing quiet p chunk at s z → Stands s false quiet p chunk z
unfolding Stands
stands_ill quiet p chunk at Well z e h = absurd (false≢true (sym e))
stands_ill quiet p chunk at Failed z e h = h
stands_ill quiet p chunk at Refused z e h = h

-- nothing is left of the chunk: it was taken whole
pub turn-whole : (quiet : Bool) (p : Point) (chunk : List ℕ) (q : Point) (at : ℕ) → Turn quiet p chunk q at → ltb 0 (left q.reading (length chunk) at) ≡ false → Stands Well false quiet p chunk q
unfolding Stands left
turn-whole quiet p chunk q at t h =
    let z : (length chunk - at) * (capture_bytes + 2) + (q.reading.upto - q.reading.from) ≤ 0 = ltb-false 0 _ h in
    let past : at ≡ length chunk = omega (arith, z, t.within) in
    let none : drop at chunk ≡ [] = ap (λ (n : ℕ). drop n chunk) past ∙ drop-length chunk in
    record { events = t.events; goes = subst (λ (l : List ℕ). Goes quiet p chunk t.events q l) none t.goes; played = omega (arith, z) }

pub turn-kept : (quiet : Bool) (p : Point) (chunk : List ℕ) (q : Point) (at : ℕ) (s : State) → Turn quiet p chunk q at → Kept p.reading (length chunk) (record { reading = q.reading; state = s }) q.desk
turn-kept quiet p chunk q at s t = record { fit = t.fit; numbered = omega (arith, t.numbered, t.within) }
