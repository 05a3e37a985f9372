-- By what is held.
use mathlib.Core.Path.{◌≡◌, refl, ◌∙◌}
use mathlib.Core.Bool.{Bool, true, false, cond}
use Prim.Native.Nat.{ℕ}
use mathlib.Core.List.{[], ◌∷◌}
use lib.ListN.{length}
use mir.Val.{bool_byte}
use Rattle.log_reading.specs.Point.{last_lf, lf_behind}
use Rattle.log_reading.proofs.last_lf.Goals as goal

counts : (t : Bool) → bool_byte t ≡ length {A = ℕ} (cond t (10 ∷ []) [])
counts true = refl
counts false = refl

pub returns-in-Bytes : goal.returns-in-Bytes
unfolding last_lf lf_behind
returns-in-Bytes c = c.from.ensures ∙ rw c.in-Bytes.is (counts _)

pub returns-in-Long : goal.returns-in-Long
unfolding last_lf lf_behind
returns-in-Long c = rw c.in-Long.is
