-- What is played on a good unit leaves a good one, also between the run and its command; and what the code has at hand is the unit's.
use mathlib.Core.Path.{◌≡◌, refl, sym, ap, ◌∙◌, subst, subst⁻¹}
use mathlib.Core.List.{List, [], ◌∷◌}
use Prim.Native.Nat.{ℕ, zero, suc, ◌*◌, ◌<◌, ◌≤◌}
use native.Mathlib.Omega.{arith}
use lib.Bits.{and_le_r}
use lib.ListN.{length, take, get_or, length-replicate}
use Rattle.parts.specs.Parts.{block_bytes, pads_at, store_at, store_bytes}
use Rattle.bits.specs.Over.{part, over}
use Rattle.bits.proofs.Overs.{length_over}
use Rattle.receiver.specs.Lines.{indexed}
use Rattle.receiver.specs.Port.{step_at}
use Rattle.receiver.specs.Receive.{Rx, rx_of}
use Rattle.receiver.specs.Store.{packets_of, packets_if, number_if}
use Rattle.receiver.specs.declared.Receiver.{Receiver}
use Rattle.receiver.proofs.Keeps.{v3-sound}
use Rattle.attribute_map.specs.Data.{Whole}
use Rattle.commands.specs.Command.{Command, decode}
use Rattle.receiver_run.specs.Run.{Ended, lined, onward, runs, Ready, port_of, ended_of}
use Rattle.receiver_run.specs.declared.Lines.{Lines}
use Rattle.receiver_run.specs.declared.Ran.{Ran}
use Rattle.receiver_run.proofs.Hears.{ready-runs, complete}
use Rattle.layout.specs.Block.{load, save}
use Rattle.layout.specs.Good.{Good}
use Rattle.layout.specs.Sgb.{Sgb}
use Rattle.layout.specs.Valid.{Valid}
use Rattle.layout.proofs.Goods.{valid-good, saved-valid}
use Rattle.layout.proofs.Made.{made_of}
use Rattle.rules.specs.Carry.{with_pads, carried}
use Rattle.rules.specs.Write.{meant, answer}
use Rattle.rules.proofs.Keeps.{WholeIf, answered-whole, good-stepped, good-written}
use Rattle.block_port.specs.Bytes.{lines_of, put_receiver, put_lines, handed, packets_told, packets_some, taken, settled, taken_by, settled_by}
use Rattle.block_port.proofs.Steps.{port_made, length-receiver, packets-taken, packets-some, taken-if, settled-if}
use Rattle.block_port.proofs.Handed.{none-carried, front}
use Rattle.block_plain.specs.Carrying.{carried_block}
use Rattle.block_command.proofs.Told.{carried-good}
use Rattle.block_writes.specs.Play.{Played, played}
use Rattle.block_writes.specs.Ran.{handed_over, command_of, ran_to, ran_unit}
use Rattle.block_writes.proofs.Plays.{further, none_written, one_written, one-stepped, mk, plays}

-- ---- a good unit may run

pub good-ready : (u : Sgb) → Good u → Ready u.port u.game.index u.game.pads
good-ready u g = record {
  sound = v3-sound u.port.rx u.port.store g.port.receiver;
  within = omega (arith, g.game.pads, ap (λ (n : ℕ). n) g.game.index, and_le_r u.game.index u.game.pads);
  narrow = omega (arith, g.game.pads);
  long = g.port.store;
}

-- ---- a run leaves a good unit, and its command is whole

pub record Fine (u : Sgb) (e : Ended) : Type 0 where
  pub good : Good (ran_unit u e)
  pub whole : WholeIf (command_of e)

end-fine : (u : Sgb) (i : ℕ) → Good u → Fine u (record { port = u.port; index = u.game.index; at = i; packets = 0 })
unfolding ran_unit handed_over settled command_of taken with_pads
end-fine u i g = record { good = g; whole = tt }

one-fine : (u : Sgb) (v i n : ℕ) → Good u → packets_of (step_at u.port v).done ≡ suc n
    → Fine u (record { port = lined u.port v; index = indexed u.game.index u.game.pads u.port.p15 v; at = suc i; packets = suc n })
unfolding ran_unit handed_over settled command_of taken lined
one-fine u v i n g e = record {
  good = subst⁻¹ Good (one-stepped u v n e) (good-stepped u v g);
  whole = subst WholeIf (one_written u v n e).0 (unfold answer in answered-whole u.port v g.port);
}

on_fine : (u : Sgb) (v : ℕ) (after : Ended) → Fine (further u v) after → Fine u after
unfolding ran_unit with_pads
on_fine u v after f = record { good = f.good; whole = f.whole }

fine-from : (i : ℕ) (u : Sgb) (ws : List ℕ) → Good u → Fine u (runs u.game.pads i u.game.index u.port ws)
unfolding runs onward with_pads indexed
fine-from i u [] g = end-fine u i g
fine-from i u (v ∷ vs) g = go (packets_of (step_at u.port v).done) refl (λ k. fine-from (suc i) (further u v) vs k)
  where
    y : ℕ
    y = indexed u.game.index u.game.pads u.port.p15 v

    after : Ended
    after = runs u.game.pads (suc i) y (lined u.port v) vs

    go : (n : ℕ) → packets_of (step_at u.port v).done ≡ n → (Good (further u v) → Fine (further u v) after) → Fine u (onward n (lined u.port v) y (suc i) after)
    go zero e rest = on_fine u v after (rest (subst Good (none_written u v (good-ready u g) e).1 (good-written u v g)))
    go (suc n) e rest = one-fine u v i n g e

pub fine : (u : Sgb) (ws : List ℕ) → Good u → Fine u (ran_to u ws)
unfolding ran_to
fine u ws g = fine-from 0 u ws g

-- ---- the code's run is the unit's

pub length-settled : (n : ℕ) (s : List ℕ) → length s ≡ store_bytes → length (settled n s) ≡ store_bytes
unfolding settled
length-settled zero s h = h
length-settled (suc n) s h = length-replicate {A = ℕ} store_bytes 0

-- what `run_on` has at hand after its run
pub run-few : (mask x : ℕ) (r : Receiver) (l : Lines) (s ws : List ℕ) (q : Ran) (s' : List ℕ) → Ready (port_of r l s) x mask
    → ended_of q s' ≡ runs mask 0 x (port_of r l s) ws → (number_if q.packets < 8) × (length s' ≡ store_bytes)
run-few mask x r l s ws q s' k e = (
  subst⁻¹ (λ (d : Ended). d.packets < 8) e (complete mask 0 x (port_of r l s) ws k).few,
  ap (λ (d : Ended). length d.port.store) e ∙ (ready-runs mask 0 x (port_of r l s) ws k).long,
)

pub run-handed : (e : Ended) (q : Ran) (s' s'' buffer buffer' : List ℕ) → ended_of q s' ≡ e → q.packets ≡ packets_if e.packets
    → s'' ≡ settled_by q.packets s' → buffer' ≡ handed (taken_by q.packets s') buffer
    → (ended_of q s'' ≡ handed_over e) × (buffer' ≡ handed (command_of e) buffer)
unfolding handed_over command_of
run-handed e q s' s'' buffer buffer' is p f h =
    let n : e.packets ≡ number_if q.packets = sym (ap (λ (d : Ended). d.packets) is) in
    let store : s'' ≡ settled (number_if q.packets) s' =
    f ∙ ap (λ o. settled_by o s') p ∙ settled-if e.packets s' ∙ ap (λ (k : ℕ). settled k s') n in
    let command : taken_by q.packets s' ≡ taken (number_if q.packets) s' =
    ap (λ o. taken_by o s') p ∙ taken-if e.packets s' ∙ ap (λ (k : ℕ). taken k s') n in (
      ap (ended_of q) store ∙ ap handed_over is,
      h ∙ ap (λ o. handed o buffer) command ∙ ap (λ (d : Ended). handed (command_of d) buffer) is,
    )

module _ (b : List ℕ) (ok : Valid b) (r : Receiver) (l : Lines) (rx : rx_of r ≡ (load b).port.rx) (lines : l ≡ lines_of (load b)) where
  good : Good (load b)
  good = valid-good b ok.tested

  pub loaded-ready : Ready (port_of r l (part store_at store_bytes b)) l.index (get_or b pads_at 0)
  unfolding load lines_of
  loaded-ready =
      let k : Ready (load b).port (load b).game.index (load b).game.pads = good-ready (load b) good in
      subst⁻¹ (λ (m : Lines). Ready (record { p15 = m.p15; both = m.both; rx = rx_of r; store = part store_at store_bytes b }) m.index (get_or b pads_at 0)) lines
      (subst⁻¹ (λ (x : Rx). Ready (record { p15 = (load b).port.p15; both = (load b).port.both; rx = x; store = part store_at store_bytes b }) (load b).game.index (get_or b pads_at 0)) rx k)

  pub loaded-runs : (ws : List ℕ) → runs (get_or b pads_at 0) 0 l.index (port_of r l (part store_at store_bytes b)) ws ≡ ran_to (load b) ws
  unfolding load lines_of ran_to
  loaded-runs ws = λ t. runs (get_or b pads_at 0) 0 (lines t).index (record { p15 = (lines t).p15; both = (lines t).both; rx = rx t; store = part store_at store_bytes b }) ws

  module _ (ws : List ℕ) (q : Ran) (s : List ℕ) (ended : ended_of q s ≡ handed_over (runs (get_or b pads_at 0) 0 l.index (port_of r l (part store_at store_bytes b)) ws)) where
    abbrev e : Ended
    e = ran_to (load b) ws

    is : ended_of q s ≡ handed_over e
    is = ended ∙ ap handed_over (loaded-runs ws)

    store_long : length s ≡ store_bytes
    unfolding handed_over
    store_long =
        ap (λ (d : Ended). length d.port.store) is
        ∙ length-settled e.packets e.port.store (unfold ran_to in (ready-runs (load b).game.pads 0 (load b).game.index (load b).port ws (good-ready (load b) good)).long)

    pub put-long : length (over store_at store_bytes s b) ≡ block_bytes
    put-long = length_over store_at store_bytes s b (omega (arith, ok.long)) store_long ∙ ok.long

    pub receiver-long : (m : List ℕ) → m ≡ put_receiver (rx_of q.rx) (over store_at store_bytes s b) → length m ≡ block_bytes
    receiver-long m h = ap length h ∙ length-receiver (rx_of q.rx) (over store_at store_bytes s b) put-long

    pub ran : (m m' : List ℕ) → m ≡ put_receiver (rx_of q.rx) (over store_at store_bytes s b) → m' ≡ put_lines q.lines m
        → (q.at ≡ e.at) × (m' ≡ save (ran_unit (load b) e))
    unfolding handed_over ran_unit
    ran m m' h k = (
      ap (λ (d : Ended). d.at) is,
      k ∙ ap (put_lines q.lines) h ∙ port_made b (load b) (made_of b ok.tested) s store_long (rx_of q.rx) q.lines
          ∙ ap (λ (d : Ended). save (record { port = d.port; game = with_pads d.index (load b).game.pads (load b).game; snes = (load b).snes })) is,
    )

-- ---- the run's command, carried out

module _ (b ws m : List ℕ) (ok : Valid b) (made : m ≡ save (ran_unit (load b) (ran_to (load b) ws))) where
  abbrev e' : Ended
  e' = ran_to (load b) ws

  f : Fine (load b) e'
  f = fine (load b) ws (valid-good b ok.tested)

  all : played (load b) ws ≡ mk (carried (meant (command_of e')) (ran_unit (load b) e')) e'.at (command_of e')
  all = plays (load b) ws (good-ready (load b) (valid-good b ok.tested))

  pub ran-valid : Valid m
  ran-valid = saved-valid (ran_unit (load b) e') f.good m made

  pub played-at : e'.at ≡ (played (load b) ws).at
  played-at = sym (ap (λ (p : Played). p.at) all)

  pub played-told : command_of e' ≡ (played (load b) ws).told
  played-told = sym (ap (λ (p : Played). p.told) all)

  few : e'.packets < 8
  few = unfold ran_to in (complete (load b).game.pads 0 (load b).game.index (load b).port ws (good-ready (load b) (valid-good b ok.tested))).few

  long : length e'.port.store ≡ store_bytes
  long = unfold ran_to in (ready-runs (load b).game.pads 0 (load b).game.index (load b).port ws (good-ready (load b) (valid-good b ok.tested))).long

  told-packets : e'.packets ≡ packets_told (command_of e')
  told-packets = unfold command_of in packets-taken e'.packets e'.port.store few long

  some-packets : packets_if e'.packets ≡ packets_some (command_of e')
  some-packets = unfold command_of in packets-some e'.packets e'.port.store few long

  pub played-packets : packets_if e'.packets ≡ packets_some (played (load b) ws).told
  played-packets = some-packets ∙ ap packets_some played-told

  -- none was complete: all is done
  pub played-none : e'.packets ≡ 0 → m ≡ save (played (load b) ws).unit
  played-none z = made ∙ ap save (none-carried (command_of e') f.whole (sym told-packets ∙ z) (ran_unit (load b) e') ∙ sym (ap (λ (p : Played). p.unit) all))

  -- one was: the buffer's front is the command
  pub played-one : (n : ℕ) (before buffer : List ℕ) → n ≡ e'.packets → (n ≡ 0 → ⊥) → buffer ≡ handed (command_of e') before
      → Whole (take (16 * n) buffer) × ((16 * n ≤ length buffer)
      × ((x : List ℕ) → x ≡ carried_block (decode (take (16 * n) buffer)) m → x ≡ save (played (load b) ws).unit))
  played-one n before buffer q z h =
      let s = front (command_of e') n before buffer f.whole (q ∙ told-packets) z h in (
        s.whole,
        (
          s.room,
          λ x k.
              carried-good (ran_unit (load b) e') f.good _ m x made k
              ∙ ap (λ (c : Command). save (carried c (ran_unit (load b) e'))) (sym s.means)
              ∙ sym (ap (λ (p : Played). save p.unit) all),
        ),
      )
