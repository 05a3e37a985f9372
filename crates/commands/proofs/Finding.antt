-- A code that no row of the table has stands for nothing.
use Rattle.std.proofs.Common.{◌≡◌, ℕ, List, [], ◌∷◌, refl, ne_eqb}
use Rattle.commands.specs.Command.{Row, plain, nothing, find}

-- P, and k is the code of no row: what the last arm of a `match` knows, from the first arm on
abbrev pub Past : ℕ → List Row → Type 0 → Type 0
Past k [] P = P
Past k (r ∷ rs) P = Past k rs (P × (k ≡ r.code → ⊥))

first : (k : ℕ) (rs : List Row) (P : Type 0) → Past k rs P → P
first k [] P a = a
first k (r ∷ rs) P a = (first k rs (P × (k ≡ r.code → ⊥)) a).0

pub find_none : (k : ℕ) (rs : List Row) (P : Type 0) → Past k rs P → find k rs ≡ plain nothing
unfolding find
find_none k [] P a = refl
find_none k (r ∷ rs) P a =
    rw (ne_eqb k r.code (first k rs (P × (k ≡ r.code → ⊥)) a).1) (find_none k rs (P × (k ≡ r.code → ⊥)) a)
