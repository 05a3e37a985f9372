-- The two bytes and the enum say the same, since each number below 5 names one kind; and the third screen is the one that lands, since
-- the countdown starts at 3.
-- Assumes nothing.
use Prim.Native.Nat.{ℕ, zero, suc, ◌<◌}
use mathlib.Core.Path.{◌≡◌, refl, sym, ap, ◌∙◌}
use mathlib.Core.Bool.{true, false}
use native.Mathlib.Omega.{arith}
use Rattle.std.specs.Prelude.{Some, None}
use borrow.Author.Tests.{ne_eqb}
use native.Mathlib.Nat.{not-suc-le-zero, le_of_suc-le-suc}
use Rattle.bits.specs.Determined.{Once}
use Rattle.transfer.specs.declared.pending.Transfer.{Transfer}
use Rattle.transfer.specs.declared.pending.Transfer.TheVariants.{Palettes, Attributes, BorderTiles, BorderMap}
use Rattle.transfer.specs.declared.pending.Pending.TheVariants.{Nothing, In}
use Rattle.transfer.specs.Pending.{number_of, countdown_of, kind_of, named, pending_of, fallen, lands, landed_of}

-- a pending transfer that is written out and read again
pub kind-read-back : (n : ℕ) (t : Transfer) → 0 < n → pending_of n (number_of t) ≡ In n t
unfolding pending_of number_of
kind-read-back n t h = let some : n ≡ 0 → ⊥ = λ e. omega arith in rw (ne_eqb n 0 some) (each t)
  where
    each : (t : Transfer) → named n (number_of t) ≡ In n t
    each Palettes = refl
    each Attributes = refl
    each (BorderTiles false) = refl
    each (BorderTiles true) = refl
    each BorderMap = refl

-- so a number names one kind, and tells what landed
pub kind_once : Once number_of
kind_once s t e =
    let q : In 1 s ≡ In 1 t = sym (kind-read-back 1 s (omega arith)) ∙ (ap (pending_of 1) e ∙ kind-read-back 1 t (omega arith)) in
    cc

pub landed_once : Once landed_of
unfolding landed_of
landed_once None None e = refl
landed_once None (Some t) e = cc
landed_once (Some s) None e = cc
landed_once (Some s) (Some t) e = ap Some (kind_once s t (cc))

-- the two bytes of a valid block (V4), read and written out again
pub bytes-kept : (n k : ℕ) → 0 < n → k < 5 → (countdown_of (pending_of n k) ≡ n) × (kind_of (pending_of n k) ≡ k)
unfolding pending_of countdown_of kind_of number_of
bytes-kept n k h l = let some : n ≡ 0 → ⊥ = λ e. omega arith in rw (ne_eqb n 0 some) (each k l)
  where
    each : (k : ℕ) → k < 5 → (countdown_of (named n k) ≡ n) × (kind_of (named n k) ≡ k)
    each zero l = (refl, refl)
    each (suc zero) l = (refl, refl)
    each (suc (suc zero)) l = (refl, refl)
    each (suc (suc (suc zero))) l = (refl, refl)
    each (suc (suc (suc (suc zero)))) l = (refl, refl)
    each (suc (suc (suc (suc (suc k))))) l =
        absurd (not-suc-le-zero (le_of_suc-le-suc (le_of_suc-le-suc (le_of_suc-le-suc (le_of_suc-le-suc (le_of_suc-le-suc l))))))

pub nothing-kept : (k : ℕ) → pending_of 0 k ≡ Nothing
unfolding pending_of
nothing-kept k = refl

-- a transfer command sets the countdown to 3: two screens answer none, the third lands, and nothing is left
pub third-screen : (t : Transfer)
    → (lands (In 3 t) ≡ None)
    × (lands (fallen (In 3 t)) ≡ None)
    × (lands (fallen (fallen (In 3 t))) ≡ Some t)
    × (fallen (fallen (fallen (In 3 t))) ≡ Nothing)
unfolding fallen lands
third-screen t = (refl, refl, refl, refl)
