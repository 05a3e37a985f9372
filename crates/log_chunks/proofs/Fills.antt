-- A fill tells the next part of what is still to be told, and leaves the rest.
use mathlib.Core.Path.{◌≡◌, refl, sym, ap, ◌∙◌, subst⁻¹}
use mathlib.Core.Bool.{Bool, true, false, cond, not, ◌&&◌}
use mathlib.Core.List.{List, [], ◌++◌, append_assoc}
use Prim.Native.Nat.{ℕ, zero, suc, ◌+◌, ◌≤◌, ◌<◌}
use native.Mathlib.Omega.{arith}
use borrow.Author.Tests.{ltb-true, ltb-false, leb-true, le-leb, lt-ltb}
use lib.Dec.{ltb, leb}
use lib.ListN.{length, drop}
use Rattle.bits.proofs.Tests.{either, and_left, and_right}
use Rattle.layout.specs.Sgb.{Sgb}
use Rattle.log_chunks.specs.Events.{Event}
use Rattle.log_chunks.specs.Texts.{shown}
use Rattle.log_chunks.specs.Steps.{Desk, Stepped, ran_on, played_to, stepped, events_on, goes_on, step_room, Filling, next_by, next, fills, fill, left, to_tell, to_end, Fit}
use Rattle.log_reading.specs.declared.Reading.{Reading}
use Rattle.log_chunks.proofs.Tells.{ran-tells, ran_ends}
use Rattle.log_chunks.proofs.Takes.{took-tells, took-ends}
use Rattle.log_chunks.proofs.Keeps.{StepKeeps, step_keeps}

-- what was to be told is these events, and then what is to be told from there; and the end is the same
pub record Tells (r : Reading) (d : Desk) (rest : List ℕ) (es : List Event) (r' : Reading) (d' : Desk) (rest' : List ℕ) : Type 0 where
  pub tells : to_tell r d rest ≡ es ++ to_tell r' d' rest'
  pub ends : to_end r d rest ≡ to_end r' d' rest'

abbrev Onward : Reading → Desk → List ℕ → ℕ → List ℕ → Stepped → Type 0
Onward r d chunk at rest s = Tells r d (drop at chunk ++ rest) (events_on s) s.reading s.desk (drop s.at chunk ++ rest)

ran-onward : (r : Reading) (d : Desk) (chunk : List ℕ) (at : ℕ) (rest : List ℕ) → Fit r d → Onward r d chunk at rest (ran_on r d at)
ran-onward r d chunk at rest f =
    let e : (ran_on r d at).at ≡ at = (unfold ran_on played_to in refl) in
    record {
      tells = ran-tells r d at f (drop at chunk ++ rest) ∙ ap (λ (n : ℕ). events_on (ran_on r d at) ++ to_tell (ran_on r d at).reading (ran_on r d at).desk (drop n chunk ++ rest)) (sym e);
      ends = ran_ends r d at f (drop at chunk ++ rest) ∙ ap (λ (n : ℕ). to_end (ran_on r d at).reading (ran_on r d at).desk (drop n chunk ++ rest)) (sym e);
    }

pub step-tells : (r : Reading) (d : Desk) (chunk : List ℕ) (at : ℕ) (rest : List ℕ) → Fit r d → at ≤ length chunk → Onward r d chunk at rest (stepped r d chunk at)
unfolding stepped
step-tells r d chunk at rest f h =
    either (Onward r d chunk at rest) (ltb r.from r.upto) (λ e. ran-onward r d chunk at rest f)
    (λ e.
    record {
      tells = took-tells r d chunk at rest f h (ltb-false r.from r.upto e);
      ends = took-ends r d chunk at rest f h (ltb-false r.from r.upto e);
    })

-- ---- a fill: what was told and what is to be told are the same throughout

abbrev story : Filling → List ℕ → List ℕ → List Event
story f chunk rest = f.events ++ to_tell f.reading f.desk (drop f.at chunk ++ rest)

abbrev outcome : Filling → List ℕ → List ℕ → Sgb
outcome f chunk rest = to_end f.reading f.desk (drop f.at chunk ++ rest)

next-story : (f : Filling) (chunk rest : List ℕ) → Fit f.reading f.desk → f.at ≤ length chunk → story f chunk rest ≡ story (next f chunk) chunk rest
unfolding next next_by
next-story f chunk rest k h =
    let s : Stepped = stepped f.reading f.desk chunk f.at in
    ap (λ (l : List Event). f.events ++ l) (step-tells f.reading f.desk chunk f.at rest k h).tells
    ∙ sym (append_assoc f.events (events_on s) (to_tell s.reading s.desk (drop s.at chunk ++ rest)))

next-outcome : (f : Filling) (chunk rest : List ℕ) → Fit f.reading f.desk → f.at ≤ length chunk → outcome f chunk rest ≡ outcome (next f chunk) chunk rest
unfolding next next_by
next-outcome f chunk rest k h = (step-tells f.reading f.desk chunk f.at rest k h).ends

-- what a fill keeps
pub record FillKeeps (r : Reading) (size at : ℕ) (f : Filling) : Type 0 where
  pub fit : Fit f.reading f.desk
  pub within : f.at ≤ size
  pub numbered : f.reading.number + at ≤ r.number + f.at
  pub no_more : left f.reading size f.at ≤ left r size at

-- and what it tells
record Fills (chunk : List ℕ) (f g : Filling) : Type 0 where
  pub keeps : FillKeeps f.reading (length chunk) f.at g
  pub tells : (rest : List ℕ) → story f chunk rest ≡ story g chunk rest
  pub ends : (rest : List ℕ) → outcome f chunk rest ≡ outcome g chunk rest

stays : (chunk : List ℕ) (f : Filling) → Fit f.reading f.desk → f.at ≤ length chunk → Fills chunk f f
stays chunk f k h = record { keeps = record { fit = k; within = h; numbered = omega arith; no_more = omega arith }; tells = λ rest. refl; ends = λ rest. refl }

then : (chunk : List ℕ) (f g : Filling) → Fit f.reading f.desk → f.at ≤ length chunk → 0 < left f.reading (length chunk) f.at → Fills chunk (next f chunk) g → Fills chunk f g
then chunk f g k h more z =
    let s : StepKeeps f.reading f.desk (length chunk) f.at (stepped f.reading f.desk chunk f.at) = step_keeps f.reading f.desk chunk f.at k h in
    let c : g.reading.number + (stepped f.reading f.desk chunk f.at).at ≤ (stepped f.reading f.desk chunk f.at).reading.number + g.at = (unfold next next_by in z.keeps.numbered) in
    let m : left g.reading (length chunk) g.at ≤ left (stepped f.reading f.desk chunk f.at).reading (length chunk) (stepped f.reading f.desk chunk f.at).at = (unfold next next_by in z.keeps.no_more) in
    record {
      keeps = record { fit = z.keeps.fit; within = z.keeps.within; numbered = omega (arith, s.numbered); no_more = omega (arith, s.less more) };
      tells = λ rest. next-story f chunk rest k h ∙ z.tells rest;
      ends = λ rest. next-outcome f chunk rest k h ∙ z.ends rest;
    }

next-fit : (f : Filling) (chunk : List ℕ) → Fit f.reading f.desk → f.at ≤ length chunk → Fit (next f chunk).reading (next f chunk).desk × ((next f chunk).at ≤ length chunk)
unfolding next next_by
next-fit f chunk k h = let s = step_keeps f.reading f.desk chunk f.at k h in (s.fit, s.within)

-- a fill that goes on has something left
pub goes_left : (refused : Bool) (written : ℕ) (r : Reading) (at size room : ℕ) → goes_on refused written r at size room ≡ true → 0 < left r size at
unfolding goes_on
goes_left refused written r at size room e = ltb-true 0 (left r size at) (and_right (leb (written + step_room) room) (ltb 0 (left r size at)) (and_right (not refused) (leb (written + step_room) room && ltb 0 (left r size at)) e))

-- and room for the next text
pub goes-room : (refused : Bool) (written : ℕ) (r : Reading) (at size room : ℕ) → goes_on refused written r at size room ≡ true → written + step_room ≤ room
unfolding goes_on
goes-room refused written r at size room e = leb-true (written + step_room) room (and_left (leb (written + step_room) room) (ltb 0 (left r size at)) (and_right (not refused) (leb (written + step_room) room && ltb 0 (left r size at)) e))

fills_all : (n room : ℕ) (f : Filling) (chunk : List ℕ) → Fit f.reading f.desk → f.at ≤ length chunk → Fills chunk f (fills n room f chunk)
unfolding fills
fills_all zero room f chunk k h = stays chunk f k h
fills_all (suc n) room f chunk k h =
    let w = next-fit f chunk k h in
    pick (goes_on f.refused (length (shown f.events)) f.reading f.at (length chunk) room) (fills n room (next f chunk) chunk)
    (λ e. then chunk f (fills n room (next f chunk) chunk) k h (goes_left f.refused (length (shown f.events)) f.reading f.at (length chunk) room e) (fills_all n room (next f chunk) chunk w.0 w.1))
  where
    pick : (t : Bool) (g : Filling) → (t ≡ true → Fills chunk f g) → Fills chunk f (cond t g f)
    pick true g z = z refl
    pick false g z = stays chunk f k h

-- however the input is cut: a fill tells its part, whatever comes behind the chunk, and leaves the rest
module _ (room : ℕ) (r : Reading) (d : Desk) (chunk : List ℕ) (at : ℕ) (k : Fit r d) (h : at ≤ length chunk) where
  all : Fills chunk (record { reading = r; at = at; refused = false; desk = d; events = [] }) (fill room r d chunk at)
  unfolding fill
  all = fills_all (left r (length chunk) at) room (record { reading = r; at = at; refused = false; desk = d; events = [] }) chunk k h

  pub fill-keeps : FillKeeps r (length chunk) at (fill room r d chunk at)
  fill-keeps = all.keeps

  pub fill-tells : (rest : List ℕ) → to_tell r d (drop at chunk ++ rest) ≡ (fill room r d chunk at).events ++ to_tell (fill room r d chunk at).reading (fill room r d chunk at).desk (drop (fill room r d chunk at).at chunk ++ rest)
  fill-tells rest = all.tells rest

  pub fill-ends : (rest : List ℕ) → to_end r d (drop at chunk ++ rest) ≡ to_end (fill room r d chunk at).reading (fill room r d chunk at).desk (drop (fill room r d chunk at).at chunk ++ rest)
  fill-ends rest = all.ends rest

  -- where there is something to do and room, a fill does some of it
  abbrev f₀ : Filling
  f₀ = record { reading = r; at = at; refused = false; desk = d; events = [] }

  goes : 0 < left r (length chunk) at → step_room ≤ room → goes_on false (length (shown [])) r at (length chunk) room ≡ true
  unfolding goes_on shown
  goes more big =
      let a : leb (0 + step_room) room ≡ true = le-leb (0 + step_room) room (omega arith) in
      let b : ltb 0 (left r (length chunk) at) ≡ true = lt-ltb 0 (left r (length chunk) at) more in
      rw (a, b)

  next-less : 0 < left r (length chunk) at → left (next f₀ chunk).reading (length chunk) (next f₀ chunk).at < left r (length chunk) at
  unfolding next next_by
  next-less more = (step_keeps r d chunk at k h).less more

  fills-less : (n : ℕ) → 0 < left r (length chunk) at → step_room ≤ room → left (fills (suc n) room f₀ chunk).reading (length chunk) (fills (suc n) room f₀ chunk).at < left r (length chunk) at
  unfolding fills
  fills-less n more big =
      let w = next-fit f₀ chunk k h in
      let l : left (fills n room (next f₀ chunk) chunk).reading (length chunk) (fills n room (next f₀ chunk) chunk).at ≤ left (next f₀ chunk).reading (length chunk) (next f₀ chunk).at = (fills_all n room (next f₀ chunk) chunk w.0 w.1).keeps.no_more in
      subst⁻¹ (λ (t : Bool). left (cond t (fills n room (next f₀ chunk) chunk) f₀).reading (length chunk) (cond t (fills n room (next f₀ chunk) chunk) f₀).at < left r (length chunk) at) (goes more big)
      (omega (arith, l, next-less more))

  pub fill-less : 0 < left r (length chunk) at → step_room ≤ room → left (fill room r d chunk at).reading (length chunk) (fill room r d chunk at).at < left r (length chunk) at
  unfolding fill
  fill-less more big = by (left r (length chunk) at) refl
    where
      by : (n : ℕ) → left r (length chunk) at ≡ n → left (fills n room f₀ chunk).reading (length chunk) (fills n room f₀ chunk).at < left r (length chunk) at
      by zero e = absurd (omega arith)
      by (suc n) e = fills-less n more big
