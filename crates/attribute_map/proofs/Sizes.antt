-- Owning a `[[u8; 20]; 18]` tells that it is eighteen rows of twenty.
use mathlib.Core.Path.{◌≡◌}
use mathlib.Core.List.{List, [], ◌∷◌}
use Prim.Native.Nat.{ℕ, zero, suc, ◌<◌}
use native.Mathlib.Nat.{le_of_suc-le-suc, not-suc-le-zero}
use denote.Array.{Array, each}
use denote.Shadow.{shadow}
use denote.Plain.{UInt}
use mir.Syntax.{w8}
use mir.Val.{Val}
use lib.ListN.{length, get_or}
use Rattle.attribute_map.specs.Map.{columns, rows, Sized}

rows_long : (xs : List (List ℕ)) (us : List Val) → shadow (each (List ℕ) (Array (UInt w8) columns).own_val xs us) → (y : ℕ) → y < length xs → length (get_or xs y []) ≡ columns
rows_long [] us p y h = absurd (not-suc-le-zero h)
rows_long (x ∷ xs) [] p y h = absurd p
rows_long (x ∷ xs) (u ∷ us) p zero h = p.0.1.0.1
rows_long (x ∷ xs) (u ∷ us) p (suc y) h = rows_long xs us p.1 y (le_of_suc-le-suc h)

-- of the first parameter, `sized _ _ c.good.0`
pub sized : (m : List (List ℕ)) (vs : List Val) → shadow ((Array (Array (UInt w8) columns) rows).own_val m vs) → Sized m
sized m vs g = record { down = g.1.0.1; across = λ y h. rows_long m g.0 g.1.1 y (rw g.1.0.1 h) }
