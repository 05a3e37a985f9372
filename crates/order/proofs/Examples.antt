-- The theorem says something: a PAL_SET that is moved past a landing gives another outcome (by computation), and an ATTR_DIV that is moved
-- past it does not (by the theorem). The unit waits for the stop pulse of a command, with a palette page due at the next screen; its block is valid.
use Prim.Native.Nat.{ℕ, zero, suc, ◌<◌}
use native.Mathlib.Nat.{lt_of_lt_of_le}
use native.Mathlib.Omega.{arith}
use mathlib.Core.Path.{◌≡◌, refl, ap}
use mathlib.Core.Bool.{true}
use mathlib.Core.List.{List, [], ◌∷◌}
use mathlib.Core.Logic.{inl}
use mathlib.Core.Option.{IsSome}
use lib.Dec.{lit≤}
use lib.ListN.{replicate, get_or, length-replicate}
use Rattle.parts.specs.Parts.{store_bytes, capture_bytes}
use Rattle.bits.specs.Bit.{bit_of, bit_at}
use Rattle.bits.specs.Pair.{pair_of}
use Rattle.bits.specs.Plane.{byte_of}
use Rattle.bits.specs.Tab.{tab, tab_from}
use Rattle.bits.specs.Word.{word, word_at, low_byte, high_byte}
use Rattle.bits.proofs.Zeros.{replicate-zeros}
use Rattle.receiver.specs.Count.{code_of, count_of}
use Rattle.receiver.specs.Lines.{p14_high, p15_high, both_high, pulse_by, pulse_of, indexed}
use Rattle.receiver.specs.Receive as receive
use Rattle.receiver.specs.Store.{bytes_of, appended, filed, answer_of, emptied}
use Rattle.receiver.specs.Port.{answered, wrote}
use Rattle.receiver.specs.declared.Stage.TheVariants.{Receiving}
use Rattle.screen.specs.Packed.{pair_at}
use Rattle.transfer.specs.Page.{plane_byte, page_of}
use Rattle.transfer.specs.Landing.{palettes_landed}
use Rattle.transfer.specs.Pending as pending
use Rattle.transfer.specs.declared.pending.Pending.TheVariants.{In}
use Rattle.transfer.specs.declared.pending.Transfer.TheVariants.{Palettes}
use Rattle.palettes.specs.Palettes.{system_number, chosen, pal_set}
use Rattle.commands.specs.Command.{find, decode}
use Rattle.commands.specs.Files.{pal_set_map}
use Rattle.commands.specs.Mask.{cancelled}
use Rattle.layout.specs.Sgb.{Sgb}
use Rattle.layout.specs.Block.{save}
use Rattle.layout.specs.Valid.{valid}
use Rattle.layout.specs.Good.{Good}
use Rattle.layout.specs.Fresh.{fresh, times, word_bytes}
use Rattle.layout.proofs.Freshes.{fresh-good}
use Rattle.layout.proofs.Goods.{good-valid}
use Rattle.rules.specs.Carry.{with_pending, with_pads, with_palettes, with_map, with_mask, without_mask, fixedly, fixed_snes, carried_game, carried_snes, carried}
use Rattle.rules.specs.Write.{advanced, meant, carries, stepped, written}
use Rattle.rules.specs.Screen.{captured, with_system, landed, landing, shown}
use Rattle.order.specs.Log.{Act, write, screen, accepts, shown_if, sees, after_write, after_screen, run, writes_of, screens_of, screens_before, fixed_of, fixed_at, Aligned}
use Rattle.order.proofs.Order.{order}

-- the fresh unit, but that a packet with first byte b and zeros is in up to its stop pulse, and the page is due
abbrev pub ready : ℕ → Sgb
ready b = record {
  port =
      record {
        p15 = true;
        both = true;
        rx = record { stage = Receiving; expected = 0; received = 0; bits = 128; packet = b };
        store = replicate store_bytes 0;
      };
  game = (fresh true).game;
  snes = with_pending (In 1 Palettes) (fresh true).snes;
}

pub ready-good : (b : ℕ) → b < 256 → Good (ready b)
unfolding fresh with_pending
ready-good b h =
    let g = fresh-good true in
    record {
      port =
          record {
            lines = refl;
            receiver = (record { bound = lit≤ tt; clear = lt_of_lt_of_le h (lit≤ tt) }, inl (record { none_in = refl; none_due = refl; empty = replicate-zeros store_bytes }));
            store = length-replicate {A = ℕ} store_bytes 0;
          };
      game = g.game;
      snes =
          record {
            pending = (lit≤ tt, lit≤ tt);
            live = g.snes.live;
            system = g.snes.system;
            files = g.snes.files;
            tiles = g.snes.tiles;
            border_map = g.snes.border_map;
            border_palettes = g.snes.border_palettes;
          };
    }

-- its block is valid
pub ready-valid : (b : ℕ) → b < 256 → valid (save (ready b)) ≡ true
ready-valid b h = good-valid (ready b) (ready-good b h)

-- a screen of shade 3 all over
abbrev pub shot : List ℕ
shot = replicate capture_bytes 0xFF

-- the stop pulse, before the screen and after it
abbrev pub early : List Act
early = write 0x20 ∷ screen shot ∷ []

abbrev pub late : List Act
late = screen shot ∷ write 0x20 ∷ []

-- PAL_SET, 51: its two places differ, in the second byte of the palettes
pub pal-set-ends : (run (ready 0x51) early).last ≡ (run (ready 0x51) late).last → ⊥
unfolding fresh times word_bytes low_byte high_byte with_pending bit_of bit_at pair_of byte_of tab tab_from word word_at code_of count_of p14_high p15_high both_high pulse_by pulse_of indexed receive.idle receive.quiet receive.kept receive.expecting receive.stopped receive.clocked receive.when_receiving receive.pulsed receive.after_pulse bytes_of appended filed answer_of emptied answered wrote pair_at plane_byte page_of palettes_landed pending.fallen pending.lands system_number chosen pal_set find decode pal_set_map cancelled with_pads with_palettes with_map with_mask without_mask fixedly fixed_snes carried_game carried_snes advanced meant carries carried stepped written captured with_system landed landing shown accepts shown_if sees after_write after_screen run
pal-set-ends e = let z : ◌≡◌ {A = ℕ} 127 255 = ap (λ u. get_or u.game.palettes 1 0) e in omega arith

pub pal-set_moves : run (ready 0x51) early ≡ run (ready 0x51) late → ⊥
pal-set_moves e = pal-set-ends (ap (λ o. o.last) e)

-- ATTR_DIV, 31: no write of this log is fixed, so it may be moved past the landing
pub attr-div_aligned : Aligned (ready 0x31) early late
unfolding bit_of code_of count_of p14_high p15_high both_high pulse_by pulse_of receive.idle receive.quiet receive.kept receive.expecting receive.stopped receive.clocked receive.when_receiving receive.pulsed receive.after_pulse bytes_of appended filed answer_of answered wrote find decode meant carries carried stepped written sees fixed_of fixed_at writes_of screens_of
attr-div_aligned = record { same_writes = refl; same_screens = refl; same_before = none-fixed }
  where
    none-fixed : (i : ℕ) → IsSome (fixed_at (ready 0x31) early i) → screens_before early i ≡ screens_before late i
    none-fixed zero p = absurd p
    none-fixed (suc i) p = absurd p

pub attr-div_moves : run (ready 0x31) early ≡ run (ready 0x31) late
attr-div_moves = order (ready 0x31) early late attr-div_aligned
