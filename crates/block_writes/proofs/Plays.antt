-- A run of the port plays the writes: a write that completes no command has done all with its step, and the run ends at the first that does.
use mathlib.Core.Path.{◌≡◌, refl, sym, ap, ◌∙◌}
use mathlib.Core.List.{List, [], ◌∷◌}
use mathlib.Core.Option.{Option, none, some}
use Prim.Native.Nat.{ℕ, zero, suc, ◌-◌, ◌*◌, ◌≤◌}
use native.Mathlib.Omega.{arith}
use lib.ListN.{take, replicate}
use Rattle.parts.specs.Parts.{store_bytes}
use Rattle.block_port.specs.Bytes.{taken, settled}
use Rattle.receiver.specs.Lines.{pulse_of, indexed}
use Rattle.receiver.specs.Port.{step_at, filed_at, answered, wrote}
use Rattle.receiver.specs.Store.{packets_of}
use Rattle.receiver.proofs.Sound.{good-pulse}
use Rattle.receiver_run.specs.Run.{Ended, lined, onward, runs, Ready}
use Rattle.receiver_run.proofs.Turns.{ready-lined}
use Rattle.receiver_run.proofs.Hears.{within, none_told, one_told}
use Rattle.layout.specs.Good.{Good}
use Rattle.layout.specs.Sgb.{Sgb}
use Rattle.rules.specs.Carry.{with_pads, carried, carried_game, carried_snes, plainly}
use Rattle.rules.proofs.Keeps.{WholeIf, good-written, answered-whole}
use Rattle.rules.specs.Write.{meant, carries, advanced, stepped, written, answer}
use Rattle.block_writes.specs.Play.{Played, stop, played}
use Rattle.block_writes.specs.Ran.{handed_over, command_of, ran_unit, ran_to}

-- the run from the i-th write on, as what was played
abbrev by : Sgb → ℕ → Ended → Played
by u i e = record { unit = carried (meant (command_of e)) (ran_unit u e); at = e.at - i; told = command_of e }

-- the unit with its port further on, where no command came
abbrev pub further : Sgb → ℕ → Sgb
further u v = record { port = lined u.port v; game = with_pads (indexed u.game.index u.game.pads u.port.p15 v) u.game.pads u.game; snes = u.snes }

module _ (u : Sgb) (v : ℕ) where
  abbrev done : ℕ
  done = packets_of (step_at u.port v).done

  abbrev pub with-store : List ℕ → Sgb
  with-store s = record {
    port = record { p15 = (lined u.port v).p15; both = (lined u.port v).both; rx = (lined u.port v).rx; store = s };
    game = (further u v).game;
    snes = u.snes;
  }

  pub none_written : Ready u.port u.game.index u.game.pads → done ≡ 0 → (answer u v ≡ none) × (written u v ≡ further u v)
  unfolding answer answered written carries meant stepped advanced wrote lined carried carried_game carried_snes plainly
  none_written r e =
      let t = none_told (step_at u.port v).done (filed_at u.port v) (good-pulse u.port.rx (pulse_of v) u.port.both r.sound).1 e in
      (t.0, ap (λ (o : Option (List ℕ)). carried (meant o) (stepped u v)) t.0 ∙ ap with-store t.1)

  pub one_written : (n : ℕ) → done ≡ suc n
      → (answer u v ≡ some (take (16 * suc n) (filed_at u.port v)))
      × (written u v ≡ carried (meant (some (take (16 * suc n) (filed_at u.port v)))) (with-store (replicate store_bytes 0)))
  unfolding answer answered written carries stepped advanced wrote lined
  one_written n e =
      let t = one_told (step_at u.port v).done (filed_at u.port v) n e in
      (t.0, ap (λ (o : Option (List ℕ)). carried (meant o) (stepped u v)) t.0 ∙ ap (λ (s : List ℕ). carried (meant (some (take (16 * suc n) (filed_at u.port v)))) (with-store s)) t.1)

-- where a command came: the port with its store empty again is the stepped unit's
pub one-stepped : (u : Sgb) (v n : ℕ) → packets_of (step_at u.port v).done ≡ suc n → with-store u v (replicate store_bytes 0) ≡ stepped u v
unfolding stepped advanced wrote lined
one-stepped u v n e = ap (with-store u v) (sym (one_told (step_at u.port v).done (filed_at u.port v) n e).1)

-- ---- a run is what was played

abbrev pub mk : Sgb → ℕ → Option (List ℕ) → Played
mk u n o = record { unit = u; at = n; told = o }

end-played : (u : Sgb) (i : ℕ) → mk u 0 none ≡ by u i (record { port = u.port; index = u.game.index; at = i; packets = 0 })
unfolding command_of taken meant ran_unit handed_over settled with_pads carried carried_game carried_snes plainly
end-played u i = let k : 0 ≡ i - i = omega arith in ap (λ (n : ℕ). mk u n none) k

module _ (u : Sgb) (v i : ℕ) (vs : List ℕ) (after : Ended) where
  abbrev y : ℕ
  y = indexed u.game.index u.game.pads u.port.p15 v

  on-played : Ready u.port u.game.index u.game.pads → packets_of (step_at u.port v).done ≡ 0 → suc i ≤ after.at
      → played (further u v) vs ≡ by (further u v) (suc i) after
      → stop (answer u v) (written u v) (played (written u v) vs) ≡ by u i after
  unfolding stop ran_unit with_pads
  on-played r e from rest =
      let t = none_written u v r e in
      let k : suc (after.at - suc i) ≡ after.at - i = omega arith in
      (λ j. stop (t.0 j) (t.1 j) (played (t.1 j) vs)) ∙ ap (stop none (further u v)) rest ∙ ap (λ (n : ℕ). mk (by u i after).unit n (command_of after)) k

  one-played : (n : ℕ) → packets_of (step_at u.port v).done ≡ suc n
      → stop (answer u v) (written u v) (played (written u v) vs) ≡ by u i (record { port = lined u.port v; index = y; at = suc i; packets = suc n })
  unfolding stop command_of taken ran_unit handed_over settled lined
  one-played n e =
      let t = one_written u v n e in
      let k : 1 ≡ suc i - i = omega arith in
      let c : List ℕ = take (16 * suc n) (filed_at u.port v) in
      (λ j. stop (t.0 j) (t.1 j) (played (t.1 j) vs)) ∙ ap (λ (m : ℕ). mk (carried (meant (some c)) (with-store u v (replicate store_bytes 0))) m (some c)) k

plays-from : (i : ℕ) (u : Sgb) (ws : List ℕ) → Ready u.port u.game.index u.game.pads
    → played u ws ≡ by u i (runs u.game.pads i u.game.index u.port ws)
unfolding played runs onward with_pads indexed
plays-from i u [] r = end-played u i
plays-from i u (v ∷ vs) r = go (packets_of (step_at u.port v).done) refl (plays-from (suc i) (further u v) vs (ready-lined u.port u.game.index u.game.pads v r))
  where
    y' : ℕ
    y' = indexed u.game.index u.game.pads u.port.p15 v

    after : Ended
    after = runs u.game.pads (suc i) y' (lined u.port v) vs

    go : (n : ℕ) → packets_of (step_at u.port v).done ≡ n → played (further u v) vs ≡ by (further u v) (suc i) after
        → stop (answer u v) (written u v) (played (written u v) vs) ≡ by u i (onward n (lined u.port v) y' (suc i) after)
    go zero e rest = on-played u v i vs after r e (within u.game.pads (suc i) y' (lined u.port v) vs).from rest
    go (suc n) e rest = one-played u v i vs after n e

pub plays : (u : Sgb) (ws : List ℕ) → Ready u.port u.game.index u.game.pads
    → played u ws ≡ mk (carried (meant (command_of (ran_to u ws))) (ran_unit u (ran_to u ws))) (ran_to u ws).at (command_of (ran_to u ws))
unfolding ran_to
plays u ws r =
    let d : Ended = runs u.game.pads 0 u.game.index u.port ws in
    let k : d.at - 0 ≡ d.at = omega arith in
    plays-from 0 u ws r ∙ ap (λ (n : ℕ). mk (carried (meant (command_of d)) (ran_unit u d)) n (command_of d)) k

-- ---- one write alone

pub played-write : (u : Sgb) (v : ℕ) → played u (v ∷ []) ≡ mk (written u v) 1 (answer u v)
unfolding played
played-write u v = go (answer u v)
  where
    go : (o : Option (List ℕ)) → stop o (written u v) (mk (written u v) 0 none) ≡ mk (written u v) 1 o
    go none = unfold stop in refl
    go (some c) = unfold stop in refl

-- ---- what is played

-- a good unit stays good, and a command that is told is whole
pub record Kept (p : Played) : Type 0 where
  pub good : Good p.unit
  pub whole : WholeIf p.told

kept-stop : (o : Option (List ℕ)) (u : Sgb) (p : Played) → WholeIf o → Good u → Kept p → Kept (stop o u p)
unfolding stop
kept-stop none u p w g k = record { good = k.good; whole = k.whole }
kept-stop (some c) u p w g k = record { good = g; whole = w }

pub kept-played : (u : Sgb) (ws : List ℕ) → Good u → Kept (played u ws)
unfolding played answer
kept-played u [] g = record { good = g; whole = tt }
kept-played u (v ∷ vs) g = kept-stop (answer u v) (written u v) (played (written u v) vs) (answered-whole u.port v g.port) (good-written u v g) (kept-played (written u v) vs (good-written u v g))
