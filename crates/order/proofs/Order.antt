-- The order theorem: two aligned logs give the same outcome from any unit.
use Prim.Native.Nat.{ℕ, zero, suc}
use mathlib.Core.Path.{◌≡◌, refl, sym, ap, ◌∙◌}
use mathlib.Core.List.{List, [], ◌∷◌}
use mathlib.Core.Option.{Option, none, some}
use Rattle.receiver.specs.Port.{Port, wrote, answered}
use Rattle.commands.specs.Command.{Command, plain, fixed, Fixed}
use Rattle.layout.specs.Sgb.{Sgb, Game, Snes}
use Rattle.rules.specs.Carry.{carried_game, carried_snes, carried, fixed_snes}
use Rattle.rules.specs.Write.{stepped, written, answer, carries, advanced}
use Rattle.order.specs.Log.{Act, write, screen, Seen, seen, shown_if, sees, Outcome, after_write, after_screen, run, writes_of, fixed_of, fixed_at, Aligned}
use Rattle.order.proofs.Merge.{Mark, shows, does, keep, sieve, pick_at, sieve-same}

fixes : Port → ℕ → Option Fixed
fixes r w = fixed_of (carries r w)

-- ------------------------------------------------------------------------------- `Snes`: told by the screens and the fixed commands

record Tape : Type 0 where
  last : Snes
  seen : List Snes
  sights : List Seen

-- `seen` is `Snes` as each fixed command finds it
tape : Snes → List (Mark Fixed) → Tape
tape s [] = record { last = s; seen = []; sights = [] }
tape s (shows x ∷ l) =
    record { last = (tape (shown_if s x) l).last; seen = (tape (shown_if s x) l).seen; sights = seen s x ∷ (tape (shown_if s x) l).sights }
tape s (does c ∷ l) =
    record { last = (tape (fixed_snes c s) l).last; seen = s ∷ (tape (fixed_snes c s) l).seen; sights = (tape (fixed_snes c s) l).sights }

-- ------------------------------------------------------------- the receiver and `Game`: told by the writes and by what fixed ones see

unfoldable pub receivers : Port → List ℕ → Port
receivers r [] = r
receivers r (w ∷ ws) = receivers (wrote r w) ws

unfoldable pub answers_of : Port → List ℕ → List (Option (List ℕ))
answers_of r [] = []
answers_of r (w ∷ ws) = answered r w ∷ answers_of (wrote r w) ws

-- what a command sees: the first of `seen` if it is fixed, and else any `Snes` at all
looked : Option Fixed → Snes → List Snes → Snes
looked none s₀ l = s₀
looked (some c) s₀ [] = s₀
looked (some c) s₀ (s ∷ l) = s

rest : Option Fixed → List Snes → List Snes
rest none l = l
rest (some c) [] = []
rest (some c) (s ∷ l) = l

played : Snes → Port → Game → List ℕ → List Snes → Game
played s₀ r g [] l = g
played s₀ r g (w ∷ ws) l =
    played s₀ (wrote r w) (carried_game (carries r w) (looked (fixes r w) s₀ l) (advanced r w g)) ws (rest (fixes r w) l)

-- ------------------------------------------------------------------------------------------- a run, told by its writes and its marks

told : Snes → Port → Game → List ℕ → Tape → Outcome
told s₀ r g ws t =
    record {
      last = record { port = receivers r ws; game = played s₀ r g ws t.seen; snes = t.last };
      answers = answers_of r ws;
      sights = t.sights;
    }

-- one command k, carried out in a unit or on the tape: by computation for a plain one, and for a fixed one
step : (k : Command) (s₀ : Snes) (r : Port) (g : Game) (s : Snes) (ws : List ℕ) (m : List (Mark Fixed))
    → told s₀ r (carried_game k s g) ws (tape (carried_snes k s) m)
    ≡ record {
      last =
          record {
            port = receivers r ws;
            game =
                played s₀ r
                (carried_game k (looked (fixed_of k) s₀ (tape s (keep (fixed_of k) m)).seen) g) ws
                (rest (fixed_of k) (tape s (keep (fixed_of k) m)).seen);
            snes = (tape s (keep (fixed_of k) m)).last;
          };
      answers = answers_of r ws;
      sights = (tape s (keep (fixed_of k) m)).sights;
    }
unfolding told tape looked rest keep fixed_of carried_game carried_snes
step (plain c) s₀ r g s ws m = refl
step (fixed c) s₀ r g s ws m = refl

run-told : (s₀ : Snes) (u : Sgb) (l : List Act)
    → run u l ≡ told s₀ u.port u.game (writes_of l) (tape u.snes (sieve wrote fixes u.port l))
unfolding run told tape receivers answers_of played writes_of sieve sees carried stepped written answer after_write after_screen fixes
run-told s₀ u [] = refl
run-told s₀ u (screen x ∷ l) = ap (after_screen (seen u.snes x)) (run-told s₀ (sees u x) l)
run-told s₀ u (write w ∷ l) =
    ap (after_write (answer u w))
    (run-told s₀ (written u w) l
    ∙ step (carries u.port w) s₀ (wrote u.port w) (advanced u.port w u.game) u.snes (writes_of l) (sieve wrote fixes (wrote u.port w) l))

-- which writes are fixed is told by the writes alone
fixed_told : (u : Sgb) (l : List Act) (i : ℕ) → fixed_at u l i ≡ pick_at wrote fixes u.port (writes_of l) i
unfolding fixed_at pick_at writes_of carried stepped written sees fixes
fixed_told u [] i = refl
fixed_told u (screen x ∷ l) i = fixed_told (sees u x) l i
fixed_told u (write w ∷ l) zero = refl
fixed_told u (write w ∷ l) (suc i) = fixed_told (written u w) l i

pub order : (u : Sgb) (a b : List Act) → Aligned u a b → run u a ≡ run u b
order u a b h =
    run-told u.snes u a
    ∙ ap (λ ws. told u.snes u.port u.game ws (tape u.snes (sieve wrote fixes u.port a))) h.same_writes
    ∙ ap (λ m. told u.snes u.port u.game (writes_of b) (tape u.snes m))
    (sieve-same wrote fixes u.port a b h.same_writes h.same_screens (λ i p. h.same_before i (rw fixed_told p)))
    ∙ sym (run-told u.snes u b)

-- both logs agree on which writes are fixed, and on the commands that those carry out
pub fixed_same : (u : Sgb) (a b : List Act) → writes_of a ≡ writes_of b → (i : ℕ) → fixed_at u a i ≡ fixed_at u b i
fixed_same u a b e i = fixed_told u a i ∙ ap (λ ws. pick_at wrote fixes u.port ws i) e ∙ sym (fixed_told u b i)
