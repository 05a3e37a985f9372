-- A turn of a run is a write: what the code has at hand after it is the rule's port, and the run goes on from there or ends. A run tells
-- what is heard, since a write that completes no command leaves nothing to clear.
use mathlib.Core.Path.{◌≡◌, refl, sym, ap, ap₂, subst, ◌∙◌}
use mathlib.Core.Bool.{Bool, true, false, ◌&&◌, not}
use mathlib.Core.List.{List, []}
use Prim.Native.Nat.{ℕ, zero, suc, ◌+◌, ◌<◌}
use native.Mathlib.Numerals.{add-one}
use native.Mathlib.Omega.{arith}
use lib.Bits.{and_le_r}
use lib.ListN.{length, get_or, drop}
use lib.Seq.{drop-cons}
use Rattle.receiver.specs.declared.Receiver.{Receiver}
use Rattle.receiver.specs.declared.Written.{Written}
use Rattle.receiver.specs.Lines.{p15_high, both_high, pulse_of, indexed}
use Rattle.receiver.specs.Receive.{Rx, Step, words, rx_of, step_of, after_pulse}
use Rattle.std.specs.Prelude as code
use Rattle.std.specs.Option.{is_some}
use Rattle.receiver.specs.Store.{filed, packets_of, packets_if, number_if}
use Rattle.receiver.proofs.Completed.{number_back, some-there, none_there}
use Rattle.receiver.specs.Port.{Port, step_at}
use Rattle.bits.proofs.Tests.{either}
use Rattle.receiver.proofs.Sound.{good-pulse, length-filed}
use Rattle.receiver_run.specs.Run.{Ended, lined, onward, runs, Ready, port_of, ended_of}
use Rattle.receiver_run.specs.declared.Lines.{Lines}

pub index-small : (x m : ℕ) (was : Bool) (v : ℕ) → x < 255 → m < 255 → indexed x m was v < 255
unfolding indexed
index-small x m was v h k =
    either (λ (n : ℕ). n < 255) (p15_high v && not was) (λ e. omega (arith, and_le_r (x + 1) m)) (λ e. h)

pub ready-lined : (u : Port) (x mask v : ℕ) → Ready u x mask → Ready (lined u v) (indexed x mask u.p15 v) mask
unfolding lined
ready-lined u x mask v r =
    let g = good-pulse u.rx (pulse_of v) u.both r.sound in
    record {
      sound = g.0;
      within = index-small x mask u.p15 v r.within r.narrow;
      narrow = r.narrow;
      long = length-filed (step_at u v).done u.rx.packet u.store g.1 r.long;
    }

-- ---- what the code of a turn has at hand

-- the lines and the index, which the code has one by one
abbrev pub here : Bool → Bool → ℕ → Lines
here p15 both index = record { p15 = p15; both = both; index = index }

abbrev pub port : Rx → Bool → Bool → List ℕ → Port
port r p15 both s = record { p15 = p15; both = both; rx = r; store = s }

module _ (w : Written) (rx : Receiver) (p15 both : Bool) (v n : ℕ) (p15' both' : Bool) (store store' : List ℕ)
    (h : step_of w ≡ after_pulse (rx_of rx) (pulse_of v) both) (a : p15' ≡ p15_high v) (b : both' ≡ both_high v)
    (s : store' ≡ filed w.done (words rx.lo rx.hi) store) (m : n ≡ packets_of w.done) where
  pub same-port : port (rx_of w.next) p15' both' store' ≡ lined (port (rx_of rx) p15 both store) v
  unfolding lined
  same-port =
      ap₂ (λ (c d : Bool). port (rx_of w.next) c d store') a b
      ∙ ap (port (rx_of w.next) (p15_high v) (both_high v)) s
      ∙ ap (λ (x : Step). port x.next (p15_high v) (both_high v) (filed x.done (words rx.lo rx.hi) store)) h

  pub same_count : n ≡ packets_of (step_at (port (rx_of rx) p15 both store) v).done
  same_count = m ∙ ap (λ (x : Step). packets_of x.done) h

-- ---- a turn

module _ (mask i x : ℕ) (u : Port) (ws : List ℕ) (e : Ended) (h : i < length ws) (inv : runs mask i x u (drop i ws) ≡ e) where
  turn : onward (packets_of (step_at u (get_or ws i 0)).done) (lined u (get_or ws i 0)) (indexed x mask u.p15 (get_or ws i 0)) (suc i)
      (runs mask (suc i) (indexed x mask u.p15 (get_or ws i 0)) (lined u (get_or ws i 0)) (drop (suc i) ws)) ≡ e
  unfolding runs
  turn = rw (drop-cons ws i 0 h) at inv

  pub goes_on : packets_of (step_at u (get_or ws i 0)).done ≡ 0
      → runs mask (i + 1) (indexed x mask u.p15 (get_or ws i 0)) (lined u (get_or ws i 0)) (drop (i + 1) ws) ≡ e
  unfolding onward
  goes_on z = rw add-one (rw z at turn)

  pub ends_with : (n : ℕ) → packets_of (step_at u (get_or ws i 0)).done ≡ n → (n ≡ 0 → ⊥)
      → ◌≡◌ {A = Ended}
      (record { port = lined u (get_or ws i 0); index = indexed x mask u.p15 (get_or ws i 0); at = i + 1; packets = n }) e
  unfolding onward
  ends_with zero z f = absurd (f refl)
  ends_with (suc n) z f = rw add-one (rw z at turn)

pub at_end : (mask i x : ℕ) (u : Port) (e : Ended) → runs mask i x u [] ≡ e
    → ◌≡◌ {A = Ended} (record { port = u; index = x; at = i; packets = 0 }) e
unfolding runs
at_end mask i x u e h = h

-- ---- the same as the code has it: l are the lines before the write and k behind it, `packets` is what `file` answered

module _ (w : Written) (rx : Receiver) (l k : Lines) (mask i : ℕ) (ws : List ℕ) (packets : code.Option ℕ) (store filled : List ℕ) (e : Ended)
    (r : Ready (port_of rx l store) l.index mask) (h : i < length ws) (inv : runs mask i l.index (port_of rx l store) (drop i ws) ≡ e)
    (wrote : step_of w ≡ after_pulse (rx_of rx) (pulse_of (get_or ws i 0)) l.both)
    (lines : k ≡ record { p15 = p15_high (get_or ws i 0); both = both_high (get_or ws i 0); index = indexed l.index mask l.p15 (get_or ws i 0) })
    (put : (packets ≡ packets_if (packets_of w.done)) × (filled ≡ filed w.done (words rx.lo rx.hi) store)) where
  abbrev u : Port
  u = port_of rx l store

  abbrev v : ℕ
  v = get_or ws i 0

  left : port_of w.next k filled ≡ lined u v
  left =
      same-port w rx l.p15 l.both v (packets_of w.done) k.p15 k.both store filled wrote (ap (λ (x : Lines). x.p15) lines) (ap (λ (x : Lines). x.both) lines) put.1
      refl

  counted : packets_of w.done ≡ packets_of (step_at u v).done
  counted =
      same_count w rx l.p15 l.both v (packets_of w.done) k.p15 k.both store filled wrote (ap (λ (x : Lines). x.p15) lines) (ap (λ (x : Lines). x.both) lines) put.1
      refl

  indexed_is : k.index ≡ indexed l.index mask l.p15 v
  indexed_is = ap (λ (x : Lines). x.index) lines

  pub turn-long : length filled ≡ length store
  turn-long = ap (λ (q : Port). length q.store) left ∙ (ready-lined u l.index mask v r).long ∙ sym r.long

  pub turn-ready : Ready (port_of w.next k filled) k.index mask
  turn-ready =
      subst (λ (x : ℕ). Ready (port_of w.next k filled) x mask) (sym indexed_is)
      (subst (λ (q : Port). Ready q (indexed l.index mask l.p15 v) mask) (sym left) (ready-lined u l.index mask v r))

  pub turn-on : is_some packets ≡ false → runs mask (i + 1) k.index (port_of w.next k filled) (drop (i + 1) ws) ≡ e
  turn-on n =
      let z : packets_of w.done ≡ 0 = none_there packets (packets_of w.done) put.0 n in
      ap (λ (x : ℕ). runs mask (i + 1) x (port_of w.next k filled) (drop (i + 1) ws)) indexed_is
      ∙ ap (λ (q : Port). runs mask (i + 1) (indexed l.index mask l.p15 v) q (drop (i + 1) ws)) left
      ∙ goes_on mask i l.index u ws e h inv (sym counted ∙ z)

  pub turn-ended : is_some packets ≡ true → ended_of (record { rx = w.next; lines = k; at = i + 1; packets = packets }) filled ≡ e
  turn-ended s =
      ap (λ (q : Port). record { port = q; index = k.index; at = i + 1; packets = number_if packets }) left
      ∙ ap (λ (j : ℕ). record { port = lined u v; index = j; at = i + 1; packets = number_if packets }) indexed_is
      ∙ ap (λ (n : ℕ). record { port = lined u v; index = indexed l.index mask l.p15 v; at = i + 1; packets = n }) (ap number_if put.0 ∙ number_back (packets_of w.done))
      ∙ ends_with mask i l.index u ws e h inv (packets_of w.done) (sym counted) (some-there packets (packets_of w.done) put.0 s)

  pub turn-completed : is_some packets ≡ true → packets ≡ packets_if e.packets
  turn-completed s = put.0 ∙ ap packets_if (sym (number_back (packets_of w.done)) ∙ sym (ap number_if put.0) ∙ ap (λ (d : Ended). d.packets) (turn-ended s))
