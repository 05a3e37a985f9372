-- What the calls here answer, as a refusal's number or a value (`Answer` of the crate `bits`).
-- RULES 2.1.
use Rattle.std.specs.Prelude.{ℕ, Bool, cond, List, Result, Ok, Err}
pub use Rattle.bits.specs.Answer.{Answer, refused, given}
use Rattle.refusal.specs.declared.Refusal.{Refusal}
use Rattle.refusal.specs.declared.Refusal.TheVariants.{Command}
use Rattle.refusal.specs.Codes.{told_by}
use Rattle.pulses.specs.Bytes.{packets_in, malformed}

-- how many writes
unfoldable pub encoded_answer : Result ℕ Refusal → Answer ℕ
encoded_answer r = told_by (λ n. n) r

-- whether the command conforms
unfoldable pub verdict_answer : Result Bool Refusal → Answer Bool
verdict_answer r = told_by (λ b. b) r

-- the packets of a command that is not malformed
unfoldable pub packets_answer : List ℕ → Result ℕ Refusal
packets_answer c = cond (malformed c) (Err Command) (Ok (packets_in c))
