-- A run from one place is the run from a later one, by the pulses gathered between. And what the stage and the lines are in each way.
use mathlib.Core.Path.{◌≡◌, refl, sym, ap, ap₂, ◌∙◌}
use mathlib.Core.Bool.{true}
use mathlib.Core.List.{List}
use Prim.Native.Nat.{ℕ, ◌+◌, ◌*◌, ◌^◌, ◌≤◌}
use native.Mathlib.Omega.{arith}
use lib.ListN.{drop}
use Rattle.receiver.specs.declared.Stage.{Stage}
use Rattle.receiver.specs.declared.Stage.TheVariants.{Idle, Receiving}
use Rattle.receiver.specs.declared.Receiver.{Receiver}
use Rattle.receiver.specs.Port.{Port}
use Rattle.receiver.specs.Rises.{rises}
use Rattle.receiver.specs.Receive.{words, rx_of, Sound}
use Rattle.receiver_run.specs.Run.{runs, port_of}
use Rattle.receiver_run.specs.declared.Lines.{Lines}
use Rattle.receiver_gather.specs.declared.Gathered.{Gathered}
use Rattle.receiver_polling.specs.declared.fed.Fed.{Fed}
use Rattle.receiver_gather.specs.Words.{receiving_port, Feeds, Gave}
use Rattle.receiver_gather.proofs.Gathers.{stack}
use Rattle.receiver_polling.specs.Passing.{Passed}
use Rattle.receiver_fast.specs.Fast.{released}

-- the receiver with a word of pulses more
pub record Joins (rx : Receiver) (g : Gathered) (next : Receiver) : Type 0 where
  pub stage : next.stage ≡ Receiving
  pub expected : next.expected ≡ rx.expected
  pub received : next.received ≡ rx.received
  pub bits : next.bits ≡ rx.bits + g.count
  pub packet : words next.lo next.hi ≡ words rx.lo rx.hi + g.word * 2 ^ rx.bits
  pub fit : rx.bits + g.count ≤ 128

-- the receiver with this packet of so many bits
abbrev pub joined : Receiver → ℕ → ℕ → ℕ → Receiver
joined rx bits lo hi = record { stage = Receiving; expected = rx.expected; received = rx.received; bits = bits; lo = lo; hi = hi }

-- the words are full or empty, so a gathered word stands beside the other
pub joins-first : (rx next : Receiver) (g : Gathered) → Sound (rx_of rx) → g.count ≤ 64 → rx.bits ≡ 0
    → next ≡ joined rx g.count g.word 0 → Joins rx g next
joins-first rx next g so few z e =
    let t = rw z at so.clear in
    rw e (record { stage = refl; expected = refl; received = refl; bits = omega arith; packet = rw z (omega (arith, t)); fit = omega arith })

pub joins-second : (rx next : Receiver) (g : Gathered) → Sound (rx_of rx) → g.count ≤ 64 → rx.bits ≡ 64
    → next ≡ joined rx (64 + g.count) rx.lo g.word → Joins rx g next
joins-second rx next g so few z e =
    let t = rw z at so.clear in
    rw e (record { stage = refl; expected = refl; received = refl; bits = omega arith; packet = rw z (omega (arith, t)); fit = omega arith })

not-idle : {A : Type 0} → Receiving ≡ Idle → A
not-idle e = let z : ◌≡◌ {A = ℕ} 0 1 = cc in absurd (omega arith)

pub join-sound : (start : Fed) (ws : List ℕ) (g : Gathered) (next : Receiver) → Gave ws start.at g → Joins start.rx g next → Sound (rx_of next)
join-sound start ws g next G J =
    let rx = start.rx in
    record {
      bound = omega (arith, J.bits, J.fit);
      clear = rw (J.packet, J.bits) (stack (words rx.lo rx.hi) g.word rx.bits g.count start.sound.clear G.small);
      room = rw J.received start.sound.room;
      due = rw J.expected start.sound.due;
      rests = λ z. not-idle (sym J.stage ∙ z);
    }

-- from where both lines are high, the run goes on behind what was gathered
module _ (mask : ℕ) (start : Fed) (ws : List ℕ) (g : Gathered) (f : Fed) (st : start.rx.stage ≡ Receiving)
    (high : start.lines ≡ released start.lines.index) (G : Gave ws start.at g) (J : Joins start.rx g f.rx)
    (after : f.lines ≡ released (rises g.ones start.lines.index mask)) (there : f.at ≡ g.at) where
  join-same : (s : List ℕ)
      → runs mask start.at start.lines.index (port_of start.rx start.lines s) (drop start.at ws)
      ≡ runs mask f.at f.lines.index (port_of f.rx f.lines s) (drop f.at ws)
  unfolding Feeds
  join-same s =
      let rx = start.rx in
      let x : ℕ = start.lines.index in
      let y : ℕ = rises g.ones x mask in
      let mk : Stage → ℕ → ℕ → ℕ → ℕ → Port = λ (t : Stage) (e r b p : ℕ).
      record { p15 = true; both = true; rx = record { stage = t; expected = e; received = r; bits = b; packet = p }; store = s } in
      ap (λ (m : Lines). runs mask start.at m.index (port_of rx m s) (drop start.at ws)) high
      ∙ ap (λ (t : Stage). runs mask start.at x (mk t rx.expected rx.received rx.bits (words rx.lo rx.hi)) (drop start.at ws)) st
      ∙ G.feeds mask start.at x rx.expected rx.received rx.bits (words rx.lo rx.hi) s J.fit
      ∙ ap (λ (j : ℕ). runs mask j y (receiving_port rx.expected rx.received (rx.bits + g.count) (words rx.lo rx.hi + g.word * 2 ^ rx.bits) s) (drop g.at ws)) (sym G.place ∙ sym there)
      ∙ ap₂ (λ (b p : ℕ). runs mask f.at y (receiving_port rx.expected rx.received b p s) (drop g.at ws)) (sym J.bits) (sym J.packet)
      ∙ ap₂ (λ (e r : ℕ). runs mask f.at y (receiving_port e r f.rx.bits (words f.rx.lo f.rx.hi) s) (drop g.at ws)) (sym J.expected) (sym J.received)
      ∙ ap (λ (t : Stage). runs mask f.at y (mk t f.rx.expected f.rx.received f.rx.bits (words f.rx.lo f.rx.hi)) (drop g.at ws)) (sym J.stage)
      ∙ ap₂ (λ (m : Lines) (j : ℕ). runs mask f.at m.index (port_of f.rx m s) (drop j ws)) (sym after) (sym there)

  pub join : Passed mask start.at start.rx start.lines ws f
  join =
      record {
        onto = omega (arith, G.place, there);
        within = rw there G.within;
        kept = J.stage ∙ sym st;
        sound = f.sound;
        few = f.few;
        same = join-same;
      }
