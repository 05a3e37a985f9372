-- What is claimed of the rule and the byte that `Broken` tells, in words that stand beside it: RULES 1.15. Proved in proofs/Brokens.
use Rattle.std.specs.Prelude.{ℕ, ◌-◌, ◌≤◌, ◌<◌, ◌≡◌, Bool, true, false, List, [], ◌∷◌, ◌⊎◌, get_or}
use Rattle.parts.specs.Parts.{block_bytes}
use Rattle.layout.specs.Valid.{v1, v2, v3, v4, v5, v6}
use Rattle.broken.specs.Broken.{Asked, Broken, rules}

-- V1 to V6 by their numbers: the test, and what it asks
abbrev pub tests : List ℕ → List Bool
tests b = v1 b ∷ v2 b ∷ v3 b ∷ v4 b ∷ v5 b ∷ v6 b ∷ []

abbrev pub rule_holds : ℕ → List ℕ → Bool
rule_holds k b = get_or (tests b) (k - 1) true

abbrev pub rule_asks : ℕ → List ℕ → List Asked
rule_asks k b = get_or (rules b) (k - 1) []

-- this is the byte of something that is not so
unfoldable pub Tells : ℕ → List Asked → Type 0
Tells n [] = ⊥
Tells n (a ∷ l) = ((a.holds ≡ false) × (a.at ≡ n)) ⊎ Tells n l

-- and nothing that is not so has a lower one
unfoldable pub Least : ℕ → List Asked → Type 0
Least n [] = Unit {0}
Least n (a ∷ l) = (a.holds ≡ false → n ≤ a.at) × Least n l

-- every rule before it holds and it does not, and the byte is the lowest of what it asks and is not so
pub record First (b : List ℕ) (r : Broken) : Type 0 where
  pub one_of_six : (1 ≤ r.rule) × (r.rule ≤ 6)
  pub earlier : (k : ℕ) → 1 ≤ k → k < r.rule → rule_holds k b ≡ true
  pub breaks : rule_holds r.rule b ≡ false
  pub tells : Tells r.at (rule_asks r.rule b)
  pub least : Least r.at (rule_asks r.rule b)
  pub inside : r.at < block_bytes
