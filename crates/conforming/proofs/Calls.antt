-- What conforms is carried out whole, over the public calls: a command of which `verdict` says that it conforms, turned into writes by
-- `encode` and handed to `write_joypad` one by one, from a valid block that holds no earlier packet and with room for a command.
use Prim.Native.Nat.{ℕ, ◌≤◌}
use mathlib.Core.Path.{◌≡◌, refl, ap, ◌∙◌}
use mathlib.Core.Bool.{true, false}
use mathlib.Core.List.{List, map}
use lib.ListN.{length, take, get_or}
use Rattle.parts.specs.Parts.{store_bytes}
use Rattle.receiver.specs.Count.{code_of}
use Rattle.pulses.specs.Bytes.{Bytes, packets_in, malformed}
use Rattle.pulses.specs.Encode.{pulses_of, Encodes}
use Rattle.pulses.specs.Trip.{NoneHeld}
use Rattle.pulses.specs.Verdict.{announces, announced, conforms, Judges}
use Rattle.std.specs.Prelude.{Ok}
use Rattle.pulses.proofs.Encodes.{verdict-conforms}
use Rattle.layout.specs.Block.{load, save}
use Rattle.layout.specs.Sgb.{Sgb}
use Rattle.layout.specs.Valid.{valid}
use Rattle.rules.specs.Carry.{with_pads, with_map}
use Rattle.order.specs.Log.{write}
use Rattle.unit.specs.Together.{Performed, performed}
use Rattle.unit.specs.Trip.{arrived, sent_to, returned}
use Rattle.unit.proofs.Allowed.{Allowed}
use Rattle.unit.proofs.Trip.{calls-round-trip, contracts-round-trip, sent-loads}
use Rattle.conforming.specs.Items.{items_done, after_items, sent_items}
use Rattle.conforming.proofs.Items.{all-carried}

-- the rules for it, sent to any unit
sent_all : (u : Sgb) (c : List ℕ) → malformed c ≡ false → conforms c ≡ true → announces (code_of (get_or c 0 0)) ≡ true
    → sent_to u c ≡ sent_items u c (announced (code_of (get_or c 0 0)) c)
unfolding sent_to sent_items
sent_all u c t k h = all-carried c (code_of (get_or c 0 0)) t h refl k (arrived u c)

module _ (b buffer c : List ℕ) (k : valid b ≡ true) (room : store_bytes ≤ length buffer) (bytes : Bytes c) (free : NoneHeld (load b).port.rx)
    (says : Judges c (Ok true)) (h : announces (code_of (get_or c 0 0)) ≡ true) where
  -- the block at the end is that of the unit in which every item that was announced is carried out
  pub calls-whole : (performed b buffer (map write (pulses_of (packets_in c) c))).block ≡ save (sent_items (load b) c (announced (code_of (get_or c 0 0)) c))
  unfolding returned
  calls-whole =
      let v = verdict-conforms c says in
      ap (λ (o : Performed). o.block) (calls-round-trip b buffer c k room bytes free v.0)
      ∙ ap save (sent_all (load b) c v.0 v.1 h)

  -- by the contracts alone: the writes that `encode` answered, and any calls that `write_joypad` allows
  pub contracts-whole : (out after : List ℕ) (n : ℕ) → Encodes c out (Ok n) after
      → (o : Performed) → Allowed b buffer (map write (take n after)) o
      → o.block ≡ save (sent_items (load b) c (announced (code_of (get_or c 0 0)) c))
  unfolding returned
  contracts-whole out after n e o a =
      let v = verdict-conforms c says in
      ap (λ (q : Performed). q.block) (contracts-round-trip b buffer c k room bytes free out after n e o a)
      ∙ ap save (sent_all (load b) c v.0 v.1 h)

  -- so the map in that block is the one before, with every item that was announced carried out
  pub contracts-map : (out after : List ℕ) (n : ℕ) → Encodes c out (Ok n) after
      → (o : Performed) → Allowed b buffer (map write (take n after)) o
      → (load o.block).game.map ≡ items_done (code_of (get_or c 0 0)) c (announced (code_of (get_or c 0 0)) c) (load b).game.map
  unfolding arrived sent_items after_items with_map with_pads
  contracts-map out after n e o a =
      let v = verdict-conforms c says in
      ap (λ (q : Performed). (load q.block).game.map) (contracts-round-trip b buffer c k room bytes free out after n e o a)
      ∙ ap (λ (u : Sgb). u.game.map) (sent-loads b buffer c k room bytes free v.0 ∙ sent_all (load b) c v.0 v.1 h)
