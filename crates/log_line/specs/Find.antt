-- Where a byte first stands in a list.
use Rattle.std.specs.Prelude.{ℕ, zero, suc, Bool, true, false, List, [], ◌∷◌, eqb}

-- one place on, unless the byte is the one
unfoldable pub index_after : Bool → ℕ → ℕ
index_after true n = zero
index_after false n = suc n

-- the index of the first c, or the list's length
unfoldable pub index_of : ℕ → List ℕ → ℕ
index_of c [] = zero
index_of c (b ∷ s) = index_after (eqb b c) (index_of c s)
