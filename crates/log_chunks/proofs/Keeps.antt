-- A step keeps what steps require, goes on in the chunk, and leaves less to do.
use mathlib.Core.Path.{◌≡◌, refl, sym, ◌∙◌, subst}
use mathlib.Core.Bool.{Bool, true, false}
use mathlib.Core.List.{List, [], ◌∷◌}
use mathlib.Core.Option.{Option, none, some}
use Prim.Native.Nat.{ℕ, suc, ◌+◌, ◌-◌, ◌≤◌, ◌<◌}
use native.Mathlib.Omega.{arith}
use borrow.Author.Tests.{ltb-true, ltb-false}
use lib.Dec.{ltb}
use lib.ListN.{length, drop, length-drop, length-take}
use Rattle.parts.specs.Parts.{capture_bytes, store_bytes}
use Rattle.bits.proofs.Overs.{length_over}
use Rattle.bits.proofs.Tests.{either}
use Rattle.layout.specs.Block.{load, save}
use Rattle.layout.specs.Sgb.{Sgb}
use Rattle.layout.proofs.Goods.{valid-good, saved-valid}
use Rattle.rules.specs.Write.{written, answer}
use Rattle.rules.specs.Screen.{screened}
use Rattle.rules.proofs.Keeps.{good-screened}
use Rattle.block_port.proofs.Handed.{length-handed}
use Rattle.block_writes.specs.Play.{Played, stop, played}
use Rattle.log_line.specs.Line.{Meaning, writes, screen, refused}
use Rattle.log_line.specs.Lines.{meaning_marked}
use Rattle.log_line.specs.Split.{held_as, taken, took_held, took_line, up_to_lf, lf_at}
use Rattle.log_line.specs.Calls.{filled}
use Rattle.log_line.proofs.Splitting.{lf-within, took-fits, length-took}
use Rattle.log_chunks.specs.Steps.{Desk, Stepped, pending, played_to, ran_on, ended_as, ended, took, took_on, stepped, holding, with_line, left, Fit}
use Rattle.log_reading.specs.declared.Reading.{Reading}
use Rattle.block_writes.proofs.Plays.{Kept, kept-played}
use Rattle.log_chunks.proofs.Takes.{Fits, fits_marked}

-- ---- what is played

pub at_most : (u : Sgb) (ws : List ℕ) → (played u ws).at ≤ length ws
unfolding played
at_most u [] = omega arith
at_most u (v ∷ vs) = go (answer u v) (at_most (written u v) vs)
  where
    go : (o : Option (List ℕ)) → (played (written u v) vs).at ≤ length vs → (stop o (written u v) (played (written u v) vs)).at ≤ suc (length vs)
    go none h = unfold stop in omega arith
    go (some c) h = unfold stop in omega arith

pub at_least : (u : Sgb) (ws : List ℕ) → 0 < length ws → 0 < (played u ws).at
unfolding played
at_least u [] h = h
at_least u (v ∷ vs) h = go (answer u v)
  where
    go : (o : Option (List ℕ)) → 0 < (stop o (written u v) (played (written u v) vs)).at
    go none = unfold stop in omega arith
    go (some c) = unfold stop in omega arith

pub pending-long : (r : Reading) (d : Desk) → Fit r d → length (pending r d.bytes) ≡ r.upto - r.from
unfolding pending
pending-long r d f = simp (length-take, length-drop) (omega (arith, f.bytes_long, f.from_fits, f.upto_fits))

-- ---- what a step keeps

pub record StepKeeps (r : Reading) (d : Desk) (size at : ℕ) (s : Stepped) : Type 0 where
  pub fit : Fit s.reading s.desk
  pub within : s.at ≤ size
  pub numbered : s.reading.number + at ≤ r.number + s.at
  pub less : 0 < left r size at → left s.reading size s.at < left r size at

ran-keeps : (r : Reading) (d : Desk) (size at : ℕ) → Fit r d → at ≤ size → r.from < r.upto → StepKeeps r d size at (ran_on r d at)
unfolding ran_on played_to left
ran-keeps r d size at f h more =
    let u : Sgb = load d.block in
    let ws : List ℕ = pending r d.bytes in
    let p : Played = played (load d.block) (pending r d.bytes) in
    let k : Kept p = kept-played (load d.block) (pending r d.bytes) (valid-good d.block f.valid.tested) in
    let n : length ws ≡ r.upto - r.from = pending-long r d f in
    let most : p.at ≤ length ws = at_most u ws in
    let least : 0 < p.at = at_least u ws (omega arith) in
    record {
      fit =
          record {
            valid = saved-valid p.unit k.good (save p.unit) refl;
            line_long = f.line_long;
            bytes_long = f.bytes_long;
            command_long = subst (λ (m : ℕ). store_bytes ≤ m) (sym (length-handed p.told d.command k.whole f.command_long)) f.command_long;
            held_fits = f.held_fits;
            from_fits = omega arith;
            upto_fits = f.upto_fits;
            number_fits = f.number_fits;
          };
      within = h;
      numbered = omega arith;
      less = λ z. omega arith;
    }

-- the buffer of the decoded bytes keeps its length
pub filled-long : (m : Meaning) (b : List ℕ) → Fits m → length b ≡ capture_bytes → length (filled m b) ≡ capture_bytes
unfolding filled Fits
filled-long (writes ws) b g h = length_over 0 (length ws) ws b (omega arith) refl ∙ h
filled-long (screen x) b g h = length_over 0 (length x) x b (omega arith) refl ∙ h
filled-long refused b g h = h

-- a line that has ended
record EndedKeeps (r : Reading) (at : ℕ) (s : Stepped) : Type 0 where
  pub fit : Fit s.reading s.desk
  pub at_is : s.at ≡ at
  pub number_is : s.reading.number ≡ r.number + 1
  pub few : s.reading.upto - s.reading.from ≤ capture_bytes

ended-keeps : (m : Meaning) (r : Reading) (d : Desk) (at : ℕ) → Fits m → Fit r d → EndedKeeps r at (ended_as m r d at)
unfolding ended_as Fits
ended-keeps (writes ws) r d at g f = record {
  fit =
      record {
        valid = f.valid;
        line_long = f.line_long;
        bytes_long = filled-long (writes ws) d.bytes g f.bytes_long;
        command_long = f.command_long;
        held_fits = omega arith;
        from_fits = omega arith;
        upto_fits = g;
        number_fits = omega arith;
      };
  at_is = refl;
  number_is = refl;
  few = omega arith;
}
ended-keeps (screen x) r d at g f = record {
  fit =
      record {
        valid = saved-valid (screened (load d.block) x) (good-screened (load d.block) x g (valid-good d.block f.valid.tested)) (save (screened (load d.block) x)) refl;
        line_long = f.line_long;
        bytes_long = filled-long (screen x) d.bytes g f.bytes_long;
        command_long = f.command_long;
        held_fits = omega arith;
        from_fits = omega arith;
        upto_fits = omega arith;
        number_fits = omega arith;
      };
  at_is = refl;
  number_is = refl;
  few = omega arith;
}
ended-keeps refused r d at g f = record {
  fit =
      record {
        valid = f.valid;
        line_long = f.line_long;
        bytes_long = f.bytes_long;
        command_long = f.command_long;
        held_fits = omega arith;
        from_fits = omega arith;
        upto_fits = omega arith;
        number_fits = omega arith;
      };
  at_is = refl;
  number_is = refl;
  few = omega arith;
}

-- ---- taking

took-keeps : (r : Reading) (d : Desk) (chunk : List ℕ) (at : ℕ) → Fit r d → at ≤ length chunk → r.upto ≤ r.from → StepKeeps r d (length chunk) at (took_on r d chunk at)
unfolding took_on taken ended left
took-keeps r d chunk at f h none_left = go (ltb (stop) (length chunk)) refl
  where
    stop : ℕ
    stop = lf_at chunk at

    q : List ℕ
    q = up_to_lf (drop at chunk)

    r' : Reading
    r' = holding r (took_held r.held q)

    d' : Desk
    d' = with_line d (took_line r.held q d.line)

    inside : stop ≤ length chunk
    inside = lf-within chunk at h

    past : at ≤ stop
    past = unfold lf_at in omega arith

    f' : Fit r' d'
    f' = record {
      valid = f.valid;
      line_long = length-took r.held d.line f.held_fits f.line_long q;
      bytes_long = f.bytes_long;
      command_long = f.command_long;
      held_fits = took-fits r.held q;
      from_fits = omega arith;
      upto_fits = omega arith;
      number_fits = f.number_fits;
    }

    go : (t : Bool) → ltb (stop) (length chunk) ≡ t → StepKeeps r d (length chunk) at (took r' d' chunk (stop) t)
    go true e = unfold took in
        let m : Meaning = meaning_marked (held_as r'.held d'.line) in
        let l : stop < length chunk = ltb-true (stop) (length chunk) e in
        let k : EndedKeeps r' (stop + 1) (ended_as m r' d' (stop + 1)) = ended-keeps m r' d' (stop + 1) (fits_marked (held_as r'.held d'.line)) f' in
        record {
          fit = k.fit;
          within = omega (arith, k.at_is);
          numbered = omega (arith, k.at_is, k.number_is, past);
          less = λ z. omega (arith, k.at_is, k.few, past);
        }
    go false e = unfold took in
        let l : length chunk ≤ stop = ltb-false (stop) (length chunk) e in
        record { fit = f'; within = inside; numbered = omega (arith, past); less = λ z. omega (arith, inside) }

pub step_keeps : (r : Reading) (d : Desk) (chunk : List ℕ) (at : ℕ) → Fit r d → at ≤ length chunk → StepKeeps r d (length chunk) at (stepped r d chunk at)
unfolding stepped
step_keeps r d chunk at f h =
    either (StepKeeps r d (length chunk) at) (ltb r.from r.upto) (λ e. ran-keeps r d (length chunk) at f h (ltb-true r.from r.upto e))
    (λ e. took-keeps r d chunk at f h (ltb-false r.from r.upto e))
