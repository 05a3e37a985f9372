-- A run tells what is heard: a write that completes no command answers none and empties nothing, and the run ends at the first that does.
-- It ends within its writes, and keeps what it requires.
use mathlib.Core.Path.{◌≡◌, refl, sym, ap, ◌∙◌}
use mathlib.Core.List.{List, [], ◌∷◌}
use mathlib.Core.Option.{Option, none, some}
use Prim.Native.Nat.{ℕ, zero, suc, ◌+◌, ◌-◌, ◌*◌, ◌<◌, ◌≤◌}
use native.Mathlib.Omega.{arith}
use lib.Dec.{lit<}
use lib.ListN.{length, take, drop, replicate}
use Rattle.parts.specs.Parts.{store_bytes}
use Rattle.receiver.specs.declared.Done.{Done}
use Rattle.receiver.specs.declared.Done.TheVariants.{Nothing, Packet, Command}
use Rattle.receiver.specs.Lines.{pulse_of, indexed}
use Rattle.receiver.specs.Receive.{Sound, idle}
use Rattle.receiver.specs.Store.{answer_of, emptied, packets_of, Fits}
use Rattle.receiver.specs.Port.{Port, step_at, filed_at, answered, wrote, told, heard}
use Rattle.receiver.proofs.Keeps.{completes-idle}
use Rattle.receiver.proofs.Sound.{good-pulse}
use Rattle.receiver_run.specs.Run.{Ended, lined, onward, runs, cleared, resumed, Ready}
use Rattle.receiver_run.proofs.Turns.{ready-lined}

-- ---- a run ends within its writes

pub record Within (i k : ℕ) (e : Ended) : Type 0 where
  pub from : i ≤ e.at
  pub to : e.at ≤ k

within_on : (n i k x : ℕ) (u : Port) (rest : Ended) → i ≤ k → Within i k rest → Within i k (onward n u x i rest)
unfolding onward
within_on zero i k x u rest h w = w
within_on (suc n) i k x u rest h w = record { from = omega arith; to = h }

pub within : (mask i x : ℕ) (u : Port) (ws : List ℕ) → Within i (i + length ws) (runs mask i x u ws)
unfolding runs
within mask i x u [] = record { from = omega arith; to = omega arith }
within mask i x u (v ∷ vs) =
    let y : ℕ = indexed x mask u.p15 v in
    let s =
    within_on (packets_of (step_at u v).done) (suc i) (suc i + length vs) y (lined u v) (runs mask (suc i) y (lined u v) vs)
    (omega arith) (within mask (suc i) y (lined u v) vs)
    in
    record { from = omega (arith, s.from); to = omega (arith, s.to) }

pub at_most : (mask x : ℕ) (u : Port) (ws : List ℕ) → (runs mask 0 x u ws).at ≤ length ws
at_most mask x u ws = omega (arith, (within mask 0 x u ws).to)

pub at_least : (mask x : ℕ) (u : Port) (ws : List ℕ) → 0 < length ws → 0 < (runs mask 0 x u ws).at
unfolding runs
at_least mask x u [] h = h
at_least mask x u (v ∷ vs) h =
    let y : ℕ = indexed x mask u.p15 v in
    (within_on (packets_of (step_at u v).done) 1 (1 + length vs) y (lined u v) (runs mask 1 y (lined u v) vs) (omega arith)
    (within mask 1 y (lined u v) vs)).from

-- ---- a run keeps what it requires

ready_on : (mask n i x : ℕ) (u : Port) (rest : Ended) → Ready u x mask → Ready rest.port rest.index mask
    → Ready (onward n u x i rest).port (onward n u x i rest).index mask
unfolding onward
ready_on mask zero i x u rest a b = b
ready_on mask (suc n) i x u rest a b = a

pub ready-runs : (mask i x : ℕ) (u : Port) (ws : List ℕ) → Ready u x mask → Ready (runs mask i x u ws).port (runs mask i x u ws).index mask
unfolding runs
ready-runs mask i x u [] r = r
ready-runs mask i x u (v ∷ vs) r =
    let y : ℕ = indexed x mask u.p15 v in
    let s = ready-lined u x mask v r in
    ready_on mask (packets_of (step_at u v).done) (suc i) y (lined u v) (runs mask (suc i) y (lined u v) vs) s
    (ready-runs mask (suc i) y (lined u v) vs s)

-- ---- a command has at most seven packets, and leaves the receiver idle

-- of a run's end
pub record Complete (e : Ended) : Type 0 where
  pub few : e.packets < 8
  pub rests : (n : ℕ) → e.packets ≡ suc n → e.port.rx ≡ idle

pub few-packets : (d : Done) → Fits d → packets_of d < 8
unfolding packets_of
few-packets Nothing f = lit< tt
few-packets (Packet n) f = lit< tt
few-packets (Command n) f = f.1

complete_on : (n i x : ℕ) (u : Port) (rest : Ended) → n < 8 → ((m : ℕ) → n ≡ suc m → u.rx ≡ idle) → Complete rest → Complete (onward n u x i rest)
unfolding onward
complete_on zero i x u rest h f w = w
complete_on (suc n) i x u rest h f w = record { few = h; rests = f }

pub complete : (mask i x : ℕ) (u : Port) (ws : List ℕ) → Ready u x mask → Complete (runs mask i x u ws)
unfolding runs lined
complete mask i x u [] r = record { few = lit< tt; rests = λ n h. absurd (omega arith) }
complete mask i x u (v ∷ vs) r =
    let y : ℕ = indexed x mask u.p15 v in
    complete_on (packets_of (step_at u v).done) (suc i) y (lined u v) (runs mask (suc i) y (lined u v) vs)
    (few-packets (step_at u v).done (good-pulse u.rx (pulse_of v) u.both r.sound).1)
    (completes-idle u.rx (pulse_of v) u.both)
    (complete mask (suc i) y (lined u v) vs (ready-lined u x mask v r))

-- ---- what is heard

-- a write that completes no command, and one that does
pub none_told : (d : Done) (s : List ℕ) → Fits d → packets_of d ≡ 0 → (answer_of d s ≡ none) × (emptied d s ≡ s)
unfolding packets_of answer_of emptied
none_told Nothing s f e = (refl, refl)
none_told (Packet n) s f e = (refl, refl)
none_told (Command n) s f e = absurd (omega arith)

pub one_told : (d : Done) (s : List ℕ) (n : ℕ) → packets_of d ≡ suc n
    → (answer_of d s ≡ some (take (16 * suc n) s)) × (emptied d s ≡ replicate store_bytes 0)
unfolding packets_of answer_of emptied
one_told Nothing s n e = absurd (omega arith)
one_told (Packet m) s n e = absurd (omega arith)
one_told (Command m) s n e = (rw e, refl)

module _ (u : Port) (v : ℕ) where
  abbrev with-store : List ℕ → Port
  with-store s = record { p15 = (lined u v).p15; both = (lined u v).both; rx = (lined u v).rx; store = s }

  nothing-heard : (vs : List ℕ) → Sound u.rx → packets_of (step_at u v).done ≡ 0 → heard u (v ∷ vs) ≡ heard (lined u v) vs
  unfolding heard told answered wrote lined
  nothing-heard vs s e =
      let t = none_told (step_at u v).done (filed_at u v) (good-pulse u.rx (pulse_of v) u.both s).1 e in
      ap (λ (o : Option (List ℕ)). told o (heard (wrote u v) vs)) t.0
      ∙ ap (λ (q : List ℕ). heard (with-store q) vs) t.1

  command-heard : (vs : List ℕ) (n : ℕ) → packets_of (step_at u v).done ≡ suc n → heard u (v ∷ vs) ≡ resumed (suc n) (lined u v) vs
  unfolding heard told answered wrote lined resumed cleared
  command-heard vs n e =
      let t = one_told (step_at u v).done (filed_at u v) n e in
      ap (λ (o : Option (List ℕ)). told o (heard (wrote u v) vs)) t.0
      ∙ ap (λ (q : List ℕ). told (some (take (16 * suc n) (filed_at u v))) (heard (with-store q) vs)) t.1

-- what is heard of some writes is what their run completed, and then what is heard of those that it left
pub hears : (mask i x : ℕ) (u : Port) (ws : List ℕ) → Ready u x mask
    → heard u ws ≡ resumed (runs mask i x u ws).packets (runs mask i x u ws).port (drop ((runs mask i x u ws).at - i) ws)
unfolding heard runs onward resumed
hears mask i x u [] r = refl
hears mask i x u (v ∷ vs) r = go (packets_of (step_at u v).done) refl (hears mask (suc i) y (lined u v) vs (ready-lined u x mask v r))
  where
    y : ℕ
    y = indexed x mask u.p15 v

    after : Ended
    after = runs mask (suc i) y (lined u v) vs

    go : (n : ℕ) → packets_of (step_at u v).done ≡ n
        → heard (lined u v) vs ≡ resumed after.packets after.port (drop (after.at - suc i) vs)
        → heard u (v ∷ vs)
        ≡ resumed (onward n (lined u v) y (suc i) after).packets (onward n (lined u v) y (suc i) after).port
        (drop ((onward n (lined u v) y (suc i) after).at - i) (v ∷ vs))
    go zero e rec =
        let w = within mask (suc i) y (lined u v) vs in
        let k : after.at - i ≡ suc (after.at - suc i) = omega (arith, w.from) in
        nothing-heard u v vs r.sound e ∙ rec ∙ sym (rw k)
    go (suc n) e rec =
        let k : suc i - i ≡ 1 = omega arith in
        command-heard u v vs n e ∙ sym (rw k)
