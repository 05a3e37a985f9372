-- A log is writes and screens in the order in which they come. What running one gives, which of its writes are fixed, and when two logs
-- may stand for each other. RULES 9.3, demand 3; the rules are those of demand 2 (`Write` and `Screen` of the crate `rules`), so that a unit which
-- does nothing, and for which any order claim would hold, is not what this speaks of.
use Rattle.std.specs.Prelude.{ℕ, zero, suc, ◌≡◌, Bool, cond, List, [], ◌∷◌, eqb, length}
use Rattle.std.specs.Prelude as code
use Rattle.std.proofs.Math.Option.{Option, none, some, IsSome}
use Rattle.transfer.specs.declared.pending.Transfer.{Transfer}
use Rattle.commands.specs.Command.{Command, plain, fixed, Fixed}
use Rattle.parts.specs.Parts.{capture_bytes}
use Rattle.layout.specs.Sgb.{Sgb, Snes}
use Rattle.rules.specs.Write.{written, answer, carries}
use Rattle.rules.specs.Screen.{shown, landing}

pub data Act : Type 0 where
  write : ℕ → Act
  screen : List ℕ → Act

-- ---- a screen of any length

-- any other length is refused, with 3 (RULES 2.1)
unfoldable pub accepts : List ℕ → Bool
accepts x = eqb (length x) capture_bytes

-- the answer to a screen: a refusal by its number, or the kind landed or none
pub data Seen : Type 0 where
  refused : ℕ → Seen
  took : code.Option Transfer → Seen

unfoldable pub seen : Snes → List ℕ → Seen
seen s x = cond (accepts x) (took (landing s)) (refused 3)

-- a refused screen changes nothing
unfoldable pub shown_if : Snes → List ℕ → Snes
shown_if s x = cond (accepts x) (shown s x) s

unfoldable pub sees : Sgb → List ℕ → Sgb
sees u x = record { port = u.port; game = u.game; snes = shown_if u.snes x }

-- ---- running a log

-- the unit at the end, the answer to each write in order, and the answer to each screen in order
pub record Outcome : Type 0 where
  pub last : Sgb
  pub answers : List (Option (List ℕ))
  pub sights : List Seen

unfoldable pub after_write : Option (List ℕ) → Outcome → Outcome
after_write a o = record { last = o.last; answers = a ∷ o.answers; sights = o.sights }

unfoldable pub after_screen : Seen → Outcome → Outcome
after_screen a o = record { last = o.last; answers = o.answers; sights = a ∷ o.sights }

unfoldable pub run : Sgb → List Act → Outcome
run u [] = record { last = u; answers = []; sights = [] }
run u (write v ∷ l) = after_write (answer u v) (run (written u v) l)
run u (screen x ∷ l) = after_screen (seen u.snes x) (run (sees u x) l)

-- ---- the same writes and the same screens, merged differently

unfoldable pub writes_of : List Act → List ℕ
writes_of [] = []
writes_of (write v ∷ l) = v ∷ writes_of l
writes_of (screen x ∷ l) = writes_of l

unfoldable pub screens_of : List Act → List (List ℕ)
screens_of [] = []
screens_of (write v ∷ l) = screens_of l
screens_of (screen x ∷ l) = x ∷ screens_of l

-- how many screens stand before write i, counted from 0
unfoldable pub screens_before : List Act → ℕ → ℕ
screens_before [] i = 0
screens_before (screen x ∷ l) i = suc (screens_before l i)
screens_before (write v ∷ l) zero = 0
screens_before (write v ∷ l) (suc i) = screens_before l i

-- a fixed write completes a command that reads or sets what screens change: `Fixed` of the crate `commands` has them
unfoldable pub fixed_of : Command → Option Fixed
fixed_of (plain c) = none
fixed_of (fixed c) = some c

-- the fixed command that write i carries out, judged on the unit as that write finds it; none where it carries out no fixed one
unfoldable pub fixed_at : Sgb → List Act → ℕ → Option Fixed
fixed_at u [] i = none
fixed_at u (screen x ∷ l) i = fixed_at (sees u x) l i
fixed_at u (write v ∷ l) zero = fixed_of (carries u.port v)
fixed_at u (write v ∷ l) (suc i) = fixed_at (written u v) l i

-- the logs a and b have the same writes and the same screens, each in one order, and ahead of each fixed write stand as many screens in
-- the one as in the other
pub record Aligned (u : Sgb) (a b : List Act) : Type 0 where
  pub same_writes : writes_of a ≡ writes_of b
  pub same_screens : screens_of a ≡ screens_of b
  pub same_before : (i : ℕ) → IsSome (fixed_at u a i) → screens_before a i ≡ screens_before b i
