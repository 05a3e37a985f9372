-- Nothing but zeros, as V2, V3, V5 and V6 ask of whatever is not in use (RULES 1.7 to 1.11).
use Rattle.std.specs.Prelude.{ℕ, Bool, true, ◌&&◌, List, [], ◌∷◌, eqb}

unfoldable pub zeros : List ℕ → Bool
zeros [] = true
zeros (x ∷ xs) = eqb x 0 && zeros xs
