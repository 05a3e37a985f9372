-- What a call answers: the number of a refusal (RULES 2.1), or the answer's value.
use Rattle.std.specs.Prelude.{ℕ}

pub data Answer (A : Type 0) : Type 0 where
  refused : ℕ → Answer A
  given : A → Answer A
