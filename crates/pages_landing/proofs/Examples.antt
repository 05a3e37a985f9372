-- What `calls-page` asks can be met: a valid block in which PAL_TRN is in up to its stop pulse (`ready` of `order`, proofs/Examples), that pulse, and
-- two screens. With any page, and any buffer that has room for a command, the third screen then lands it.
use Prim.Native.Nat.{ℕ, suc, ◌<◌, ◌≤◌}
use mathlib.Core.Path.{◌≡◌, refl, sym, ap, subst, ◌∙◌}
use mathlib.Core.Bool.{Bool, cond}
use mathlib.Core.List.{List, [], ◌∷◌, map}
use borrow.Author.Tests.{eq-eqb}
use lib.Dec.{lit<}
use lib.ListN.{length, get_or, length-replicate}
use Rattle.parts.specs.Parts.{store_bytes, capture_bytes}
use Rattle.bits.specs.Bit.{bit_of}
use Rattle.pulses.specs.Answer.{given}
use Rattle.receiver.specs.Count.{code_of, count_of}
use Rattle.receiver.specs.Lines.{p14_high, p15_high, both_high, pulse_by, pulse_of}
use Rattle.receiver.specs.Receive as receive
use Rattle.receiver.specs.Store.{bytes_of, appended, filed, answer_of}
use Rattle.receiver.specs.Port.{answered}
use Rattle.transfer.specs.Page.{page_bytes}
use Rattle.transfer.specs.declared.pending.Transfer.TheVariants.{Palettes}
use Rattle.commands.specs.Command.{find, decode}
use Rattle.layout.specs.Block.{save}
use Rattle.layout.specs.Sgb.{Sgb}
use Rattle.layout.proofs.Goods.{good-back}
use Rattle.rules.specs.Write.{answer}
use Rattle.order.specs.Log.{Act, write, screen, accepts, run, after_write, after_screen, screens_of}
use Rattle.order.specs.Blocks.{Called}
use Rattle.order.proofs.BlockOrder.{saved, calls-saved}
use Rattle.order.proofs.Examples.{ready, ready-good, ready-valid, shot}
use Rattle.unit.specs.Together.{command_held, performed}
use Rattle.unit.proofs.Together.{replies-commands}
use Rattle.pages.specs.Pixels.{screen_of}
use Rattle.pages_landing.specs.Sending.{transfer_of, asked_for, NoneAsked, AskedFirst, screens_taken, then_page}
use Rattle.pages_landing.proofs.Calls.{calls-page}

-- the stop pulse, and two screens of shade 3 all over
abbrev pub before : List Act
before = write 0x20 ∷ screen shot ∷ screen shot ∷ []

-- PAL_TRN, 59
sends-rules : AskedFirst Palettes (map given (run (ready 0x59) before).answers)
unfolding AskedFirst NoneAsked asked_for transfer_of run after_write after_screen answer answered bit_of code_of count_of p14_high p15_high both_high pulse_by pulse_of receive.idle receive.quiet receive.kept receive.expecting receive.stopped receive.clocked receive.when_receiving receive.pulsed receive.after_pulse bytes_of appended filed answer_of find decode
sends-rules = (refl, tt)

both-taken : screens_taken (screens_of (screen shot ∷ screen shot ∷ [])) ≡ 2
unfolding screens_taken screens_of accepts
both-taken =
    ap (λ (c : Bool). cond c (suc (cond c 1 0)) (cond c 1 0)) (eq-eqb (length shot) capture_bytes (length-replicate {A = ℕ} capture_bytes 0xFF))

module _ (buffer : List ℕ) (room : store_bytes ≤ length buffer) where
  sends : AskedFirst Palettes (map command_held (performed (save (ready 0x59)) buffer before).replies)
  unfolding saved
  sends =
      let b : List ℕ = save (ready 0x59) in
      let v = ready-valid 0x59 (lit< tt) in
      subst (AskedFirst Palettes)
      (sym
      (replies-commands b buffer before v room
      ∙ ap (λ (o : Called). map given o.answers) (calls-saved b v before)
      ∙ ap (λ (u : Sgb). map given (run u before).answers) (good-back (ready 0x59) (ready-good 0x59 (lit< tt)))))
      sends-rules

  pub palettes-sent : (page : List ℕ) → length page ≡ page_bytes → ((i : ℕ) → get_or page i 0 < 256)
      → performed (save (ready 0x59)) buffer (write 0x20 ∷ screen shot ∷ screen shot ∷ screen (screen_of page) ∷ [])
      ≡ then_page Palettes page (performed (save (ready 0x59)) buffer before)
  palettes-sent page long bytes =
      calls-page (save (ready 0x59)) buffer page 0x20 (screen shot ∷ screen shot ∷ []) Palettes (ready-valid 0x59 (lit< tt)) room bytes both-taken long sends
