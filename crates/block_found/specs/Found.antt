-- What a search for a broken byte answers, and the first byte of a list that isn't zero.
use Rattle.std.specs.Prelude.{ℕ, suc, cond, List, [], ◌∷◌, eqb, Some, None}
use Rattle.std.specs.Prelude as code
use Rattle.std.proofs.Math.Option.{Option, none, some}

unfoldable pub found_told : code.Option ℕ → Option ℕ
found_told None = none
found_told (Some i) = some i

-- how many zeros stand before it; all of them, where there is none
unfoldable pub first_set : List ℕ → ℕ
first_set [] = 0
first_set (x ∷ l) = cond (eqb x 0) (suc (first_set l)) 0
