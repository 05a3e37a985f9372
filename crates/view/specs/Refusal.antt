-- The refusals that every call over a block gives first. RULES 2.1 and 2.2: 1 for another length than a block's, and then, for a block that is
-- not valid, 21 to 26 for the first of V1 to V6 that it breaks, with the byte that breaks it (`Broken` of the crate `broken`).
use Rattle.std.specs.Prelude.{ℕ, cond, List, eqb, length}
use Rattle.pulses.specs.Answer.{Answer, refused}
use Rattle.parts.specs.Parts.{block_bytes}
use Rattle.layout.specs.Valid.{valid}
use Rattle.broken.specs.Broken.{broken, broken_number}
pub use Rattle.layout.specs.Valid.{Valid}

-- what a call answers that would answer a of a valid block
unfoldable pub refusing : {A : Type 0} → List ℕ → Answer A → Answer A
refusing b a = cond (eqb (length b) block_bytes) (cond (valid b) a (refused (broken_number (broken b)))) (refused 1)

-- that refusal as one number, or 0
unfoldable pub refusal_of : List ℕ → ℕ
refusal_of b = cond (eqb (length b) block_bytes) (cond (valid b) 0 (broken_number (broken b))) 1
