-- A log run on a block: each call loads the unit, does its step, and saves it. A refused screen leaves every byte.
use Rattle.std.specs.Prelude.{ℕ, cond, List, [], ◌∷◌}
use Rattle.std.proofs.Math.Option.{Option}
use Rattle.layout.specs.Block.{load, save}
use Rattle.rules.specs.Write.{written, answer}
use Rattle.rules.specs.Screen.{screened}
use Rattle.order.specs.Log.{Act, write, screen, Seen, accepts, seen}

-- the block at the end, and the answers
pub record Called : Type 0 where
  pub block : List ℕ
  pub answers : List (Option (List ℕ))
  pub sights : List Seen

unfoldable pub called_write : Option (List ℕ) → Called → Called
called_write a o = record { block = o.block; answers = a ∷ o.answers; sights = o.sights }

unfoldable pub called_screen : Seen → Called → Called
called_screen a o = record { block = o.block; answers = o.answers; sights = a ∷ o.sights }

-- the block after a write, and after a screen of any length
unfoldable pub written_block : List ℕ → ℕ → List ℕ
written_block b v = save (written (load b) v)

unfoldable pub seen_block : List ℕ → List ℕ → List ℕ
seen_block b x = cond (accepts x) (save (screened (load b) x)) b

unfoldable pub calls : List ℕ → List Act → Called
calls b [] = record { block = b; answers = []; sights = [] }
calls b (write v ∷ l) = called_write (answer (load b) v) (calls (written_block b v) l)
calls b (screen x ∷ l) = called_screen (seen (load b).snes x) (calls (seen_block b x) l)
