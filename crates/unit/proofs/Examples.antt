-- Demand 3 over the calls says something: from a valid block, with any buffer that has room, a PAL_SET that is moved past a landing changes
-- what the calls leave, and an ATTR_DIV that is moved past it changes nothing. The unit and the two logs are those of `order` (proofs/Examples).
use Prim.Native.Nat.{ℕ, ◌<◌, ◌≤◌}
use mathlib.Core.Path.{◌≡◌, sym, ap, ◌∙◌, subst⁻¹}
use mathlib.Core.List.{List}
use lib.Dec.{lit<}
use lib.ListN.{length}
use Rattle.parts.specs.Parts.{store_bytes}
use Rattle.layout.specs.Block.{load, save}
use Rattle.layout.specs.Sgb.{Sgb}
use Rattle.layout.proofs.Goods.{valid-good, good-back}
use Rattle.order.specs.Log.{Act, run, Aligned}
use Rattle.order.specs.Blocks.{Called}
use Rattle.order.proofs.BlockOrder.{saved, calls-saved, run-good}
use Rattle.order.proofs.Examples.{ready, ready-good, ready-valid, early, late, pal-set-ends, attr-div_aligned}
use Rattle.unit.specs.Together.{Performed, performed, performed_by}
use Rattle.unit.proofs.Together.{performed-calls, calls-order}

module _ (b : ℕ) (h : b < 256) (buffer : List ℕ) (room : store_bytes ≤ length buffer) where
  -- the block that the calls leave holds the unit at the end
  ends : (l : List Act) → load (performed (save (ready b)) buffer l).block ≡ (run (ready b) l).last
  unfolding performed_by saved
  ends l =
      ap (λ (o : Performed). load o.block) (performed-calls (save (ready b)) buffer l (ready-valid b h) room)
      ∙ ap (λ (o : Called). load o.block) (calls-saved (save (ready b)) (ready-valid b h) l)
      ∙ good-back (run (load (save (ready b))) l).last (run-good (load (save (ready b))) (valid-good (save (ready b)) (ready-valid b h)) l)
      ∙ ap (λ (u : Sgb). (run u l).last) (good-back (ready b) (ready-good b h))

-- PAL_SET, 51
pub calls_pal-set_moves : (buffer : List ℕ) → store_bytes ≤ length buffer → performed (save (ready 0x51)) buffer early ≡ performed (save (ready 0x51)) buffer late → ⊥
calls_pal-set_moves buffer room e =
    pal-set-ends (sym (ends 0x51 (lit< tt) buffer room early) ∙ ap (λ (o : Performed). load o.block) e ∙ ends 0x51 (lit< tt) buffer room late)

-- ATTR_DIV, 31
pub calls_attr-div_moves : (buffer : List ℕ) → store_bytes ≤ length buffer → performed (save (ready 0x31)) buffer early ≡ performed (save (ready 0x31)) buffer late
calls_attr-div_moves buffer room =
    calls-order (save (ready 0x31)) buffer (ready-valid 0x31 (lit< tt)) room early late
    (subst⁻¹ (λ (u : Sgb). Aligned u early late) (good-back (ready 0x31) (ready-good 0x31 (lit< tt))) attr-div_aligned)
