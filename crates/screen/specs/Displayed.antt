-- Which capture is shown: the frozen one in mask mode 1, else the live one, for a mode over 3 too; the empty part if one of the two has
-- another length than a capture. RULES 2.7 and 5.5.
use Rattle.std.specs.Prelude.{ℕ, List, [], cond, length, eqb}
use Rattle.parts.specs.Parts.{capture_bytes}

unfoldable pub displayed : List ℕ → List ℕ → ℕ → List ℕ
displayed live frozen mode = cond (eqb (length live) capture_bytes) (cond (eqb (length frozen) capture_bytes) (cond (eqb mode 1) frozen live) []) []
