-- RULES 3.2 and 3.6, as laws of the definitions: when the joypad index moves, and what a stop pulse does to the store.
use mathlib.Core.Path.{◌≡◌, refl, sym, ap, ◌∙◌}
use mathlib.Core.Bool.{Bool, true, false, cond}
use mathlib.Core.List.{List, ◌++◌, append_assoc}
use mathlib.Core.Option.{none}
use Prim.Native.Nat.{ℕ, ◌+◌, ◌-◌, ◌*◌, ◌≤◌}
use native.Mathlib.Omega.{arith}
use lib.Bits.{bit_and}
use lib.Dec.{leb}
use lib.ListN.{length, take, drop, length-append, length-take}
use lib.Seq.{take_at}
use Rattle.bits.specs.Bit.{bit_of}
use Rattle.bits.proofs.Tests.{and-false}
use Rattle.receiver.specs.Lines.{p15_high, indexed}
use Rattle.receiver.specs.Receive.{Rx, Step, idle, quiet, kept}
use Rattle.receiver.specs.declared.Done.{Done}
use Rattle.receiver.specs.declared.Done.TheVariants.{Packet, Command}
use Rattle.receiver.specs.declared.Stage.TheVariants.{Awaiting}
use Rattle.receiver.specs.Store.{AtStop, at_stop, bytes_of, appended, filed, answer_of, emptied}
use Rattle.receiver.specs.Port.{Port, step_at, answered, wrote}
use Rattle.receiver.proofs.Words.{length-bytes}

-- ---- the joypad index

module _ (index mask v : ℕ) where
  -- P15 was low and is high: one more, within the mask
  pub index-rises : p15_high v ≡ true → indexed index mask false v ≡ bit_and (index + 1) mask
  unfolding indexed
  index-rises e = rw e

  -- it was high, whatever it is now: as it was
  pub index-stays-high : indexed index mask true v ≡ index
  unfolding indexed
  index-stays-high = rw (and-false (p15_high v))

  -- it is low, whatever it was
  pub index-stays-low : (was : Bool) → p15_high v ≡ false → indexed index mask was v ≡ index
  unfolding indexed
  index-stays-low was e = rw e

-- the index after P15 rose, by a release (30 hex), with the masks of one, two and four pads, and with mask 2: from the last pad on to the first
pub index-by-mask : (indexed 0 0 false 0x30 ≡ 0) × (indexed 0 1 false 0x30 ≡ 1) × (indexed 1 1 false 0x30 ≡ 0)
    × (indexed 0 3 false 0x30 ≡ 1) × (indexed 1 3 false 0x30 ≡ 2) × (indexed 2 3 false 0x30 ≡ 3) × (indexed 3 3 false 0x30 ≡ 0)
    × (indexed 0 2 false 0x30 ≡ 0) × (indexed 2 2 false 0x30 ≡ 2)
unfolding indexed p15_high bit_of
index-by-mask = (refl, refl, refl, refl, refl, refl, refl, refl, refl)

-- only bit 5 of a write counts: 20 hex and FF raise it, 1F and DF don't
pub index-by-write : (indexed 1 3 false 0x20 ≡ 2) × (indexed 1 3 false 0xFF ≡ 2) × (indexed 1 3 false 0x1F ≡ 1) × (indexed 1 3 false 0xDF ≡ 1)
    × (indexed 1 3 true 0x20 ≡ 1) × (indexed 1 3 true 0x10 ≡ 1)
unfolding indexed p15_high bit_of
index-by-write = (refl, refl, refl, refl, refl, refl)

-- ---- the packet store

-- what the parts come to for a pulse that completed this with the packet p
abbrev in_parts : Done → ℕ → List ℕ → AtStop
in_parts d p s = record { answer = answer_of d (filed d p s); store = emptied d (filed d p s) }

-- of a packet that is kept, with n expected, the rule: all are in if one more than were in are as many as that
kept_as-rule : (r : Rx) (n : ℕ) (s : List ℕ) → in_parts (kept r n).done r.packet s ≡ at_stop (leb n (r.received + 1)) r.received r.packet s
unfolding kept filed answer_of emptied at_stop
kept_as-rule r n s = go (leb n (r.received + 1))
  where
    place : r.received + 1 - 1 ≡ r.received
    place = omega arith

    go : (t : Bool)
        → in_parts (cond {A = Step} t (record { next = idle; done = Command (r.received + 1) }) (record { next = record { stage = Awaiting; expected = n; received = r.received + 1; bits = 0; packet = 0 }; done = Packet r.received })).done r.packet s
        ≡ at_stop t r.received r.packet s
    go true = rw place
    go false = refl

-- so of a write: a stop pulse that keeps the packet answers and leaves what the rule says, and a pulse that completes nothing neither
-- answers nor touches the store
module _ (u : Port) (v : ℕ) where
  pub stop-as-rule : (n : ℕ) → step_at u v ≡ kept u.rx n
      → ◌≡◌ {A = AtStop} (record { answer = answered u v; store = (wrote u v).store }) (at_stop (leb n (u.rx.received + 1)) u.rx.received u.rx.packet u.store)
  unfolding answered wrote
  stop-as-rule n e = ap (λ (x : Step). in_parts x.done u.rx.packet u.store) e ∙ kept_as-rule u.rx n u.store

  pub quiet-keeps-store : (r : Rx) → step_at u v ≡ quiet r → (answered u v ≡ none) × ((wrote u v).store ≡ u.store)
  unfolding answered wrote quiet filed answer_of emptied
  quiet-keeps-store r e = (rw e, rw e)

-- the bytes at the front are those of the packets that were in, and then the packet's: in the order in which they came
pub in_order : (s : List ℕ) (p n : ℕ) → 16 * n ≤ length s → take (16 * (n + 1)) (appended s p n) ≡ take (16 * n) s ++ bytes_of 16 p
unfolding appended
in_order s p n h =
    let both : List ℕ = take (16 * n) s ++ bytes_of 16 p in
    let rest : List ℕ = drop 16 (drop (16 * n) s) in
    ap (take (16 * (n + 1))) (sym (append_assoc (take (16 * n) s) (bytes_of 16 p) rest))
    ∙ take_at both rest (16 * (n + 1)) (simp (length-append, length-take) (omega (arith, length-bytes 16 p)))
