-- Two outcomes that one contract allows are equal, for both calls (RULES 9.2). There are no exceptions.
use mathlib.Core.List.{List}
use Prim.Native.Nat.{ℕ}
use Rattle.std.specs.Prelude.{Result}
use Rattle.bits.specs.Determined.{Determined}
use Rattle.bits.proofs.Determined.{one, same}
use Rattle.refusal.specs.declared.Refusal.{Refusal}
use Rattle.refusal.specs.Codes.{code_or_0}
use Rattle.refusal.proofs.Told.{one_or_0}
use Rattle.view.specs.Answers.{number_told}
use Rattle.view.proofs.Told.{one_number}
use Rattle.state_spans.specs.Going.{Lent}
use Rattle.state_spans.specs.Told.{lent_told}
use Rattle.state.proofs.from_state.Reads as from-state
use Rattle.state.proofs.to_state.Reads as to-state

-- the answer, the block
pub from_state_determined : (k : _) → Determined (Result Unit Refusal × List ℕ) (from-state.Learnt k) (λ r e. (r, e.0.now))
from_state_determined k a r s e f p q = λ t. (one code_or_0 one_or_0 r s p.0 q.0 t, same _ _ p.1 q.1 t)

-- the answer, the fields and the twelve spans
pub to_state_determined : (k : _) → Determined (Result ℕ Refusal × Lent) (to-state.Learnt k) (λ r e. (r, lent_told e.1.0.now))
to_state_determined k a r s e f p q = λ t. (one number_told one_number r s p.0 q.0 t, same _ _ p.1.0 q.1.0 t)
