-- A number by its remainder: x is n modulo m, and n is small, so that a remainder counts.
use mathlib.Core.Path.{◌≡◌, ap, ◌∙◌}
use Prim.Native.Nat.{ℕ, ◌+◌, ◌*◌, ◌%◌, ◌<◌}
use native.Mathlib.Nat.{add-mul-mod_self_right, mod-eq_of_lt}

-- x is n modulo m
pub record Folds (m x n : ℕ) : Type 0 where
  pub times : ℕ
  pub is : x ≡ n + times * m

pub folded : (m x n : ℕ) → Folds m x n → n < m → x % m ≡ n
folded m x n f h = ap (λ (y : ℕ). y % m) f.is ∙ add-mul-mod_self_right n f.times m ∙ mod-eq_of_lt h
