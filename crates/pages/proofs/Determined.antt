-- Two outcomes that the contract of `page_screen` allows are equal (RULES 9.2). What that means and its law stand in `bits`.
use mathlib.Core.List.{List}
use Prim.Native.Nat.{ℕ}
use Rattle.bits.specs.Determined.{Determined}
use Rattle.bits.proofs.Determined.{one, same}
use Rattle.std.specs.Prelude.{Result}
use Rattle.refusal.specs.declared.Refusal.{Refusal}
use Rattle.view.specs.Answers.{number_told}
use Rattle.view.proofs.Told.{one_number}
use Rattle.pages.proofs.page_screen.Reads as page-screen

-- the answer, the output
pub page-screen_determined : (k : _) → Determined (Result ℕ Refusal × List ℕ) (page-screen.Learnt k) (λ r e. (r, e.1.0.now))
page-screen_determined k a r s e f p q = λ t. (one number_told one_number r s p.0 q.0 t, same _ _ p.1 q.1 t)
