-- The packets of a complete command as the code answers them: `Some` number, which is not 0, or `None` for 0.
use mathlib.Core.Path.{◌≡◌, refl, ◌∙◌}
use Prim.Native.Nat.{ℕ, zero, suc, ◌<◌}
use native.Mathlib.Omega.{arith}
use Rattle.std.specs.Prelude as code
use Rattle.std.specs.Prelude.{None, Some, true, false}
use Rattle.std.specs.Option.{is_some}
use Rattle.receiver.specs.Store.{packets_if, number_if}

pub if_some : (n : ℕ) → 0 < n → Some n ≡ packets_if n
unfolding packets_if
if_some zero h = absurd (omega arith)
if_some (suc n) h = refl

pub none_zero : (n : ℕ) → None ≡ packets_if n → n ≡ 0
unfolding packets_if
none_zero zero e = refl
none_zero (suc n) e = cc

pub some_number : (k n : ℕ) → Some k ≡ packets_if n → (k ≡ n) × (k ≡ 0 → ⊥)
unfolding packets_if
some_number k zero e = cc
some_number k (suc n) e = let f : k ≡ suc n = cc in (f, λ z. omega arith)

pub number_back : (n : ℕ) → number_if (packets_if n) ≡ n
unfolding packets_if number_if
number_back zero = refl
number_back (suc n) = refl

pub some-there : (o : code.Option ℕ) (n : ℕ) → o ≡ packets_if n → is_some o ≡ true → n ≡ 0 → ⊥
some-there None n e h z = cc
some-there (Some k) n e h z = (some_number k n e).1 ((some_number k n e).0 ∙ z)

pub none_there : (o : code.Option ℕ) (n : ℕ) → o ≡ packets_if n → is_some o ≡ false → n ≡ 0
none_there None n e h = none_zero n e
none_there (Some k) n e h = cc
