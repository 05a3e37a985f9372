-- The packets that are in, of a valid block: at most seven, and behind them the packet store is zeros.
use mathlib.Core.Path.{◌≡◌}
use mathlib.Core.Bool.{true}
use mathlib.Core.List.{List}
use mathlib.Core.Logic.{⊎_elim}
use Prim.Native.Nat.{ℕ, ◌*◌, ◌≤◌}
use native.Mathlib.Omega.{arith}
use lib.ListN.{drop}
use Rattle.bits.specs.Over.{part}
use Rattle.bits.specs.Zero.{zeros}
use Rattle.bits.proofs.Zeros.{zeros-drop}
use Rattle.layout.specs.Block.{byte, load}
use Rattle.layout.specs.Valid.{Valid}
use Rattle.layout.proofs.Goods.{valid-good}
use Rattle.parts.specs.Parts.{received_at, store_at, store_bytes}
use Rattle.receiver.specs.Receive.{Rx}
use Rattle.receiver.specs.Valid.{V3At}
use Rattle.receiver.specs.declared.Stage.{Stage}
use Rattle.receiver.specs.declared.Stage.TheVariants.{Idle, Receiving, Awaiting}

pub record Stored (n : ℕ) (s : List ℕ) : Type 0 where
  pub few : n ≤ 7
  pub rest : zeros (drop (16 * n) s) ≡ true

stored_none : (n : ℕ) (s : List ℕ) → n ≡ 0 → zeros s ≡ true → Stored n s
stored_none n s e z = record { few = omega (arith, e); rest = zeros-drop (16 * n) s z }

stored_at : (g : Stage) (r : Rx) (s : List ℕ) → V3At g r s → Stored r.received s
stored_at Idle r s v = stored_none r.received s v.received v.store
stored_at Receiving r s v =
    ⊎_elim (λ f. stored_none r.received s f.none_in f.empty) (λ l. record { few = omega (arith, l.more_due, l.few); rest = l.rest_empty }) v.1
stored_at Awaiting r s v = record { few = omega (arith, v.1.more_due, v.1.few); rest = v.1.rest_empty }

pub stored_in : (b : List ℕ) → Valid b → Stored (byte received_at b) (part store_at store_bytes b)
stored_in b v =
    let u = load b in
    unfold load in stored_at u.port.rx.stage u.port.rx u.port.store (valid-good b v.tested).port.receiver
