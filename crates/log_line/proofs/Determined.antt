-- Two outcomes that the contract of `parse` allows are equal, by the law that all public calls go by (`bits`, specs/Determined): no two of its
-- answers are told alike.
use Prim.Native.Nat.{ℕ}
use mathlib.Core.Path.{ap}
use mathlib.Core.List.{List}
use Rattle.bits.specs.Determined.{Once, Determined}
use Rattle.bits.proofs.Determined.{one, same}
use Rattle.std.specs.Prelude.{Result, Ok, Err}
use Rattle.refusal.specs.declared.Refusal.{Refusal}
use Rattle.refusal.proofs.Told.{refusal-of}
use Rattle.log_line.specs.Calls.{line_told}
use Rattle.log_line.specs.declared.Line.{Line}
use Rattle.log_line.specs.declared.Line.TheVariants as L
use Rattle.log_line.proofs.parse.Reads as parse

one_line : Once line_told
unfolding line_told
one_line (Err r) (Err s) e = ap Err (refusal-of r s cc)
one_line (Err r) (Ok (L.Writes m)) e = cc
one_line (Err r) (Ok L.Screen) e = cc
one_line (Ok (L.Writes n)) (Err s) e = cc
one_line (Ok (L.Writes n)) (Ok (L.Writes m)) e = cc
one_line (Ok (L.Writes n)) (Ok L.Screen) e = cc
one_line (Ok L.Screen) (Err s) e = cc
one_line (Ok L.Screen) (Ok (L.Writes m)) e = cc
one_line (Ok L.Screen) (Ok L.Screen) e = cc

-- the answer, the bytes
pub parse_determined : (k : _) → Determined (Result Line Refusal × List ℕ) (parse.Learnt k) (λ r e. (r, e.1.0.now))
parse_determined k a r s e f p q = λ t. (one line_told one_line r s p.0 q.0 t, same _ _ p.1 q.1 t)
