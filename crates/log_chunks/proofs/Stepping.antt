-- What `take_step` leaves is the step, by its cases: writes are played, a line has ended, or the chunk is used up.
use mathlib.Core.Path.{◌≡◌, refl, ap, ap₂, ◌∙◌}
use mathlib.Core.Bool.{Bool, true, false}
use mathlib.Core.List.{List}
use mathlib.Core.Option.{Option, none, some}
use Prim.Native.Nat.{ℕ, ◌+◌, ◌≤◌, ◌<◌}
use native.Mathlib.Omega.{arith}
use borrow.Author.Tests.{lt-ltb, le-ltb}
use lib.Dec.{ltb}
use lib.ListN.{length, drop}
use Rattle.log_line.specs.Line.{line_digits, Meaning, writes, screen, refused}
use Rattle.log_line.specs.Lines.{meaning_marked}
use Rattle.log_line.specs.Split.{held_as, held_size, taken, took_line, up_to_lf}
use Rattle.log_line.specs.declared.lines.Held.{Held}
use Rattle.log_line.specs.declared.lines.Taken.{Taken}
use Rattle.log_line.proofs.Splitting.{took-fits}
use Rattle.bits.specs.Over.{over}
use Rattle.bits.proofs.Tests.{either}
use Rattle.layout.specs.Block.{load}
use Rattle.layout.specs.Valid.{Valid}
use Rattle.layout.proofs.Goods.{valid-good}
use Rattle.rules.proofs.Keeps.{WholeIf}
use Rattle.block_port.specs.Bytes.{packets_some}
use Rattle.block_writes.specs.Play.{played}
use Rattle.log_chunks.specs.Texts.{shown}
use Rattle.log_chunks.specs.Steps.{Desk, Stepped, answer_of, told_of, ran_on, played_to, pending, ended_as, ended, took, took_on, stepped, holding, with_line, told_by, ToldFits, events_on, is_refused, filled_by, Said}
use Rattle.block_writes.proofs.Plays.{kept-played}
use Rattle.log_reading.specs.declared.Reading.{Reading}
use Rattle.log_chunks.specs.declared.Step.{Step}
use Rattle.log_chunks.specs.declared.Filled.{Filled}
use Rattle.log_chunks.specs.declared.Told.{Told}
use Rattle.log_chunks.specs.declared.Told.TheVariants.{Nothing, Command, Refused}

pub taken-fits : (h : Held) (chunk : List ℕ) (at : ℕ) → held_size (taken h chunk at).held ≤ line_digits
unfolding taken
taken-fits h chunk at = took-fits h (up_to_lf (drop at chunk))

-- ---- what the code has at hand

module _ (r : Reading) (d : Desk) (chunk : List ℕ) (at : ℕ) (a : Step) (e : Desk) where
  abbrev S : Stepped
  S = stepped r d chunk at

  abbrev Is : Stepped → Type 0
  Is s = (a ≡ answer_of s) × (e ≡ s.desk)

  pub step-played : r.from < r.upto → a ≡ answer_of (ran_on r d at) → e ≡ (ran_on r d at).desk → Is S
  unfolding stepped
  step-played h p q = let t : ltb r.from r.upto ≡ true = lt-ltb r.from r.upto h in rw t (p, q)

  module _ (none_left : r.upto ≤ r.from) (t : Taken) (split : t ≡ taken r.held chunk at) (l : List ℕ) (joined : l ≡ took_line r.held (up_to_lf (drop at chunk)) d.line) where
    took-at : (s : Bool) → ltb t.at (length chunk) ≡ s → Is (took (holding r t.held) (with_line d l) chunk t.at s) → Is S
    unfolding stepped took_on
    took-at s k i =
        let z : ltb r.from r.upto ≡ false = le-ltb r.from r.upto none_left in
        rw (z, ← split, ← joined, k) i

    pub step-ended : t.at < length chunk → a ≡ answer_of (ended (holding r t.held) (with_line d l) (t.at + 1)) → e ≡ (ended (holding r t.held) (with_line d l) (t.at + 1)).desk → Is S
    unfolding took
    step-ended h p q = took-at true (lt-ltb t.at (length chunk) h) (p, q)

    pub step-held : length chunk ≤ t.at → a ≡ record { reading = holding r t.held; at = t.at; told = Nothing } → e ≡ with_line d l → Is S
    unfolding took
    step-held h p q = took-at false (le-ltb t.at (length chunk) h) (p, q)

-- ---- a step and its text

module _ (f : Filled) (d : Desk) (chunk out : List ℕ) (a : Step) (e : Desk) (out' : List ℕ) (n : ℕ) (t : Bool) where
  abbrev T : Stepped
  T = stepped f.reading d chunk f.at

  abbrev words : Step → Desk → List ℕ
  words s d = shown (told_by s.told s.reading d.command)

  pub said : a ≡ answer_of T → e ≡ T.desk → n ≡ length (words a e) → f.size + n ≤ length out
      → out' ≡ over f.size (length (words a e)) (words a e) out → t ≡ is_refused a.told
      → Said f d chunk out (record { reading = a.reading; at = a.at; size = f.size + n; refused = t }) e out'
  unfolding filled_by events_on
  said p q k i w z =
      let x : words a e ≡ shown (events_on T) = ap₂ words p q in
      record {
        goes =
            ap₂ (λ (m : ℕ) (u : Bool). record { reading = a.reading; at = a.at; size = f.size + m; refused = u }) (k ∙ ap length x) z
            ∙ ap (λ (s : Step). record { reading = s.reading; at = s.at; size = f.size + length (shown (events_on T)); refused = is_refused s.told }) p;
        lends = q;
        fits = i;
        tells = w ∙ ap (λ (v : List ℕ). over f.size (length v) v out) x;
      }

-- a command that is told has few packets
told-packets : (o : Option (List ℕ)) → WholeIf o → ToldFits (told_of (packets_some o))
unfolding packets_some told_of ToldFits
told-packets none w = tt
told-packets (some c) w = omega (arith, w.most)

told-ended : (m : Meaning) (r : Reading) (d : Desk) (at : ℕ) → ToldFits (ended_as m r d at).told
unfolding ended_as ToldFits
told-ended (writes ws) r d at = tt
told-ended (screen x) r d at = tt
told-ended refused r d at = tt

told-took : (r : Reading) (d : Desk) (chunk : List ℕ) (at : ℕ) (t : Bool) → ToldFits (took r d chunk at t).told
unfolding took ended
told-took r d chunk at true = told-ended (meaning_marked (held_as r.held d.line)) r d (at + 1)
told-took r d chunk at false = unfold ToldFits in tt

pub step-told : (r : Reading) (d : Desk) (chunk : List ℕ) (at : ℕ) → Valid d.block → ToldFits (stepped r d chunk at).told
unfolding stepped ran_on played_to took_on
step-told r d chunk at v =
    either (λ (s : Stepped). ToldFits s.told) (ltb r.from r.upto)
    (λ e. told-packets (played (load d.block) (pending r d.bytes)).told (kept-played (load d.block) (pending r d.bytes) (valid-good d.block v.tested)).whole)
    (λ e. told-took (holding r (taken r.held chunk at).held) (with_line d (took_line r.held (up_to_lf (drop at chunk)) d.line)) chunk (taken r.held chunk at).at (ltb (taken r.held chunk at).at (length chunk)))

-- which step refuses
pub refused_yes : (t : Told) → t ≡ Refused → true ≡ is_refused t
unfolding is_refused
refused_yes t e = rw e

pub refused_no : (t : Told) → (t ≡ Refused → ⊥) → false ≡ is_refused t
unfolding is_refused
refused_no Nothing e = refl
refused_no (Command n) e = refl
refused_no Refused e = absurd (e refl)
