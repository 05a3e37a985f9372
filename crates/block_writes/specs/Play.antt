-- Writes in a row on a unit: one after the other by the rules (`Write` of `rules`), up to the first that completes a command. A log's lines are
-- played so, and the public call that takes many writes at once.
use Rattle.std.specs.Prelude.{ℕ, suc, List, [], ◌∷◌}
use Rattle.std.proofs.Math.Option.{Option, none, some}
use Rattle.layout.specs.Sgb.{Sgb}
use Rattle.rules.specs.Write.{written, answer}

-- the unit after them, how many there were, and the command that the last of them completed
pub record Played : Type 0 where
  pub unit : Sgb
  pub at : ℕ
  pub told : Option (List ℕ)

-- at a command it ends, else it goes on
unfoldable pub stop : Option (List ℕ) → Sgb → Played → Played
stop (some c) u rest = record { unit = u; at = 1; told = some c }
stop none u rest = record { unit = rest.unit; at = suc rest.at; told = rest.told }

unfoldable pub played : Sgb → List ℕ → Played
played u [] = record { unit = u; at = 0; told = none }
played u (v ∷ vs) = stop (answer u v) (written u v) (played (written u v) vs)
