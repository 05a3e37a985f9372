-- A stride of no write, and one stride after the other.
use mathlib.Core.Path.{◌≡◌, refl, sym, ap, ap₂, ◌∙◌}
use mathlib.Core.List.{List}
use Prim.Native.Nat.{ℕ, ◌≤◌}
use native.Mathlib.Omega.{arith}
use lib.ListN.{length, drop}
use Rattle.receiver.specs.declared.Receiver.{Receiver}
use Rattle.receiver_run.specs.Run.{runs, port_of}
use Rattle.receiver_run.specs.declared.Lines.{Lines}
use Rattle.receiver_polling.specs.declared.fed.Fed.{Fed}
use Rattle.receiver_polling.specs.Passing.{Passed}

-- nothing is taken; one way after the other; the same receiver, lines and place
pub stay : (mask : ℕ) (f : Fed) (ws : List ℕ) → f.at ≤ length ws → Passed mask f.at f.rx f.lines ws f
stay mask f ws h = record { onto = omega arith; within = h; kept = refl; sound = f.sound; few = f.few; same = λ s. refl }

pub then : (mask from : ℕ) (rx : Receiver) (l : Lines) (ws : List ℕ) (f g : Fed)
    → Passed mask from rx l ws f → Passed mask f.at f.rx f.lines ws g → Passed mask from rx l ws g
then mask from rx l ws f g a b =
    record {
      onto = omega (arith, a.onto, b.onto);
      within = b.within;
      kept = b.kept ∙ a.kept;
      sound = b.sound;
      few = b.few;
      same = λ (s : List ℕ). a.same s ∙ b.same s;
    }

pub as-well : (mask from : ℕ) (rx : Receiver) (l : Lines) (ws : List ℕ) (f g : Fed)
    → f.rx ≡ g.rx → f.lines ≡ g.lines → f.at ≡ g.at → Passed mask from rx l ws f → Passed mask from rx l ws g
as-well mask from rx l ws f g e k a p =
    record {
      onto = rw (sym a) p.onto;
      within = rw (sym a) p.within;
      kept = ap (λ (r : Receiver). r.stage) (sym e) ∙ p.kept;
      sound = g.sound;
      few = g.few;
      same = λ (s : List ℕ).
          p.same s
          ∙ ap (λ (r : Receiver). runs mask f.at f.lines.index (port_of r f.lines s) (drop f.at ws)) e
          ∙ ap₂ (λ (m : Lines) (j : ℕ). runs mask j m.index (port_of g.rx m s) (drop j ws)) k a;
    }
