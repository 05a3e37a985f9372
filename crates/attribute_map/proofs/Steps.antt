-- A loop over sets, lines or pairs: the map after i + 1 steps is step i of the map after i.
use mathlib.Core.Path.{◌≡◌, refl}
use mathlib.Core.List.{List}
use Prim.Native.Nat.{ℕ, ◌+◌}
use native.Mathlib.Numerals.{add-one}
use Rattle.attribute_map.specs.Data.{steps}

-- n is m after i steps; a record, so that a law finds its arguments
pub record After (f : ℕ → List (List ℕ) → List (List ℕ)) (m n : List (List ℕ)) (i : ℕ) : Type 0 where
  pub is : n ≡ steps f i m

pub after_none : {f : ℕ → List (List ℕ) → List (List ℕ)} {m : List (List ℕ)} → After f m m 0
unfolding steps
after_none = record { is = refl }

pub after_more : {f : ℕ → List (List ℕ) → List (List ℕ)} {m n o : List (List ℕ)} {i : ℕ} → After f m n i → o ≡ f i n → After f m o (i + 1)
unfolding steps
after_more a g = record { is = rw (add-one, g, a.is) }
