-- The turns of `fill`: as many steps are left as there is to do, and the text so far is at the front of the output.
use mathlib.Core.Path.{◌≡◌, refl, sym, ap, ap₂, ◌∙◌, subst⁻¹}
use mathlib.Core.Bool.{Bool, true, false, cond}
use mathlib.Core.List.{List, [], ◌∷◌, ◌++◌, append_assoc}
use Prim.Native.Nat.{ℕ, zero, suc, ◌+◌, ◌≤◌, ◌<◌}
use native.Mathlib.Nat.{zero-add}
use native.Mathlib.Omega.{arith}
use lib.ListN.{length, length-append}
use Rattle.bits.specs.Over.{over}
use Rattle.bits.proofs.Overs.{over-over}
use Rattle.log_chunks.specs.Events.{Event}
use Rattle.log_chunks.specs.Texts.{shown_one, shown}
use Rattle.log_chunks.specs.Steps.{Desk, Stepped, stepped, events_on, left, Filling, goes_on, filled_by, next_by, next, Said, fills, fill, filled_to, Full, Fit}
use Rattle.log_chunks.specs.declared.Filled.{Filled}
use Rattle.log_reading.specs.declared.Reading.{Reading}
use Rattle.log_chunks.proofs.Keeps.{StepKeeps, step_keeps}
use Rattle.log_chunks.proofs.Fills.{goes_left}

pub shown-append : (a b : List Event) → shown (a ++ b) ≡ shown a ++ shown b
unfolding shown
shown-append [] b = refl
shown-append (e ∷ a) b = ap (λ (l : List ℕ). shown_one e ++ l) (shown-append a b) ∙ sym (append_assoc (shown_one e) (shown a) (shown b))

-- where the code stands, with what was told
abbrev at : Filled → Desk → List Event → Filling
at f e es = record { reading = f.reading; at = f.at; refused = f.refused; desk = e; events = es }

module _ (r : Reading) (d : Desk) (chunk : List ℕ) (from : ℕ) (out : List ℕ) where
  abbrev room : ℕ
  room = length out

  pub record Turn (f : Filled) (e : Desk) (out' : List ℕ) : Type 0 where
    pub events : List Event
    pub fuel : ℕ
    pub same : fills fuel room (at f e events) chunk ≡ fill room r d chunk from
    pub enough : left f.reading (length chunk) f.at ≤ fuel
    pub size_is : f.size ≡ length (shown events)
    pub size_fits : f.size ≤ room
    pub tells : out' ≡ over 0 (length (shown events)) (shown events) out
    pub fit : Fit f.reading e
    pub within : f.at ≤ length chunk
    pub numbered : f.reading.number + from ≤ r.number + f.at

  pub begins : Fit r d → from ≤ length chunk → Turn (record { reading = r; at = from; size = 0; refused = false }) d out
  unfolding fill shown
  begins k h = record {
    events = [];
    fuel = left r (length chunk) from;
    same = refl;
    enough = omega arith;
    size_is = refl;
    size_fits = omega arith;
    tells = refl;
    fit = k;
    within = h;
    numbered = omega arith;
  }

  -- a turn
  module _ (f : Filled) (e : Desk) (out' : List ℕ) (t : Turn f e out') (go : goes_on f.refused f.size f.reading f.at (length chunk) room ≡ true)
      (g : Filled) (e' : Desk) (out'' : List ℕ) (s : Said f e chunk out' g e' out'') where
    abbrev S : Stepped
    S = stepped f.reading e chunk f.at

    k : StepKeeps f.reading e (length chunk) f.at S
    k = step_keeps f.reading e chunk f.at t.fit t.within

    more : 0 < left f.reading (length chunk) f.at
    more = goes_left f.refused f.size f.reading f.at (length chunk) room go

    there : at g e' (t.events ++ events_on S) ≡ next (at f e t.events) chunk
    unfolding next next_by filled_by
    there = ap₂ (λ (x : Filled) (y : Desk). at x y (t.events ++ events_on S)) s.goes s.lends

    onward : (n : ℕ) → t.fuel ≡ suc n → fills n room (at g e' (t.events ++ events_on S)) chunk ≡ fill room r d chunk from
    unfolding fills
    onward n h =
        let y : goes_on f.refused (length (shown t.events)) f.reading f.at (length chunk) room ≡ true = ap (λ (m : ℕ). goes_on f.refused m f.reading f.at (length chunk) room) (sym t.size_is) ∙ go in
        let z : fills (suc n) room (at f e t.events) chunk ≡ fill room r d chunk from = ap (λ (m : ℕ). fills m room (at f e t.events) chunk) (sym h) ∙ t.same in
        ap (λ (x : Filling). fills n room x chunk) there ∙ sym (ap (λ (b : Bool). cond b (fills n room (next (at f e t.events) chunk) chunk) (at f e t.events)) y) ∙ z

    text : length (shown t.events) + length (shown (events_on S)) ≡ length (shown (t.events ++ events_on S))
    text = sym (ap length (shown-append t.events (events_on S)) ∙ length-append (shown t.events) (shown (events_on S)))

    size : g.size ≡ length (shown (t.events ++ events_on S))
    unfolding filled_by
    size = ap (λ (x : Filled). x.size) s.goes ∙ ap (λ (n : ℕ). n + length (shown (events_on S))) t.size_is ∙ text

    puts : out'' ≡ over 0 (length (shown (t.events ++ events_on S))) (shown (t.events ++ events_on S)) out
    puts =
        let a : List ℕ = shown t.events in
        let b : List ℕ = shown (events_on S) in
        s.tells
        ∙ ap₂ (λ (n : ℕ) (o : List ℕ). over n (length b) b o) t.size_is t.tells
        ∙ ap (λ (n : ℕ). over n (length b) b (over 0 (length a) a out)) (sym (zero-add (length a)))
        ∙ over-over 0 (length a) (length b) a b out (omega arith) refl
        ∙ ap₂ (λ (n : ℕ) (x : List ℕ). over 0 n x out) text (sym (shown-append t.events (events_on S)))

    reading-is : g.reading ≡ S.reading
    unfolding filled_by
    reading-is = ap (λ (x : Filled). x.reading) s.goes

    at_is : g.at ≡ S.at
    unfolding filled_by
    at_is = ap (λ (x : Filled). x.at) s.goes

    long : length out' ≡ length out → g.size ≤ room
    long h = omega (arith, s.fits)

    turn_by : (n : ℕ) → t.fuel ≡ suc n → length out' ≡ length out → Turn g e' out''
    turn_by n h l = record {
      events = t.events ++ events_on S;
      fuel = n;
      same = onward n h;
      enough = subst⁻¹ (λ (x : ℕ). x ≤ n) (ap₂ (λ (x : Reading) (i : ℕ). left x (length chunk) i) reading-is at_is) (omega (arith, k.less more, t.enough, h));
      size_is = size;
      size_fits = long l;
      tells = puts;
      fit = subst⁻¹ (λ (x : Reading). Fit x e') reading-is (subst⁻¹ (λ (y : Desk). Fit S.reading y) s.lends k.fit);
      within = omega (arith, at_is, k.within);
      numbered = omega (arith, at_is, ap (λ (x : Reading). x.number) reading-is, k.numbered, t.numbered);
    }

    pub turns : length out' ≡ length out → Turn g e' out''
    turns l = by t.fuel refl
      where
        by : (n : ℕ) → t.fuel ≡ n → Turn g e' out''
        by zero h = absurd (omega (arith, more, t.enough, h))
        by (suc n) h = turn_by n h l

    pub less : left g.reading (length chunk) g.at < left f.reading (length chunk) f.at
    less = subst⁻¹ (λ (x : ℕ). x < left f.reading (length chunk) f.at) (ap₂ (λ (x : Reading) (i : ℕ). left x (length chunk) i) reading-is at_is) (k.less more)

  -- the end
  module _ (f : Filled) (e : Desk) (out' : List ℕ) (t : Turn f e out') (stop : goes_on f.refused f.size f.reading f.at (length chunk) room ≡ false) where
    rests : (n : ℕ) → fills n room (at f e t.events) chunk ≡ at f e t.events
    unfolding fills
    rests zero = refl
    rests (suc n) =
        let y : goes_on f.refused (length (shown t.events)) f.reading f.at (length chunk) room ≡ false = ap (λ (m : ℕ). goes_on f.refused m f.reading f.at (length chunk) room) (sym t.size_is) ∙ stop in
        ap (λ (b : Bool). cond b (fills n room (next (at f e t.events) chunk) chunk) (at f e t.events)) y

    is : at f e t.events ≡ fill room r d chunk from
    is = sym (rests t.fuel) ∙ t.same

    pub ends : Full r d chunk from out f e out'
    unfolding filled_to
    ends = record {
      goes = ap (λ (n : ℕ). record { reading = f.reading; at = f.at; size = n; refused = f.refused }) t.size_is ∙ ap filled_to is;
      lends = ap (λ (x : Filling). x.desk) is;
      fits = t.size_fits;
      tells = t.tells ∙ ap (λ (x : Filling). over 0 (length (shown x.events)) (shown x.events) out) is;
    }
