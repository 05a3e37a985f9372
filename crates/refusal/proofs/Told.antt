-- A refusal is told by its number and its offset, and both together by one number: from that number the refusal can be read back.
use Prim.Native.Nat.{ℕ, ◌+◌, ◌*◌, ◌/◌, ◌%◌, ◌<◌}
use native.Mathlib.Omega.{arith}
use mathlib.Core.Path.{◌≡◌, sym, ap, ◌∙◌, refl}
use mathlib.Core.Bool.{cond}
use lib.Dec.{eqb}
use Rattle.std.specs.Prelude.{Result, Ok, Err, IsErrAnd}
use Rattle.bits.specs.Determined.{Once}
use Rattle.refusal.specs.declared.Rule.{Rule}
use Rattle.refusal.specs.declared.Rule.TheVariants.{V1, V2, V3, V4, V5, V6}
use Rattle.refusal.specs.declared.Refusal.{Refusal}
use Rattle.refusal.specs.declared.Refusal.TheVariants.{Length, Screen, Place, Command, Output, Line, Span, Cell, Page, Broken}
use Rattle.refusal.specs.Codes.{rule_number, code_of, told_by, code_or_0}

-- the rule of a number, and the refusal of a number and an offset
rule_by : ℕ → Rule
rule_by n = cond (eqb n 21) V1 (cond (eqb n 22) V2 (cond (eqb n 23) V3 (cond (eqb n 24) V4 (cond (eqb n 25) V5 V6))))

refusal_by : ℕ → ℕ → Refusal
refusal_by n at =
    cond (eqb n 1) Length (cond (eqb n 3) Screen (cond (eqb n 4) Place (cond (eqb n 5) Command (cond (eqb n 6) Output
    (cond (eqb n 7) Line (cond (eqb n 8) Span (cond (eqb n 9) Cell (cond (eqb n 10) Page (Broken (rule_by n) at)))))))))

broken_read : (r : Rule) (at n : ℕ) → n < 256 → rule_number r ≡ n → rule_by n ≡ r → refusal_by n at ≡ Broken (rule_by n) at
    → refusal_by ((rule_number r + 256 * at) % 256) ((rule_number r + 256 * at) / 256) ≡ Broken r at
broken_read r at n h e q b =
    let low : (rule_number r + 256 * at) % 256 ≡ n = omega arith in
    let high : (rule_number r + 256 * at) / 256 ≡ at = omega arith in
    rw (low, high) (b ∙ ap (λ (v : Rule). Broken v at) q)

refusal_read : (r : Refusal) → refusal_by (code_of r % 256) (code_of r / 256) ≡ r
unfolding refusal_by rule_by
refusal_read Length = refl
refusal_read Screen = refl
refusal_read Place = refl
refusal_read Command = refl
refusal_read Output = refl
refusal_read Line = refl
refusal_read Span = refl
refusal_read Cell = refl
refusal_read Page = refl
refusal_read (Broken V1 at) = broken_read V1 at 21 (omega arith) refl refl refl
refusal_read (Broken V2 at) = broken_read V2 at 22 (omega arith) refl refl refl
refusal_read (Broken V3 at) = broken_read V3 at 23 (omega arith) refl refl refl
refusal_read (Broken V4 at) = broken_read V4 at 24 (omega arith) refl refl refl
refusal_read (Broken V5 at) = broken_read V5 at 25 (omega arith) refl refl refl
refusal_read (Broken V6 at) = broken_read V6 at 26 (omega arith) refl refl refl

pub refusal-of : Once code_of
refusal-of r s e =
    sym (refusal_read r)
    ∙ ap (λ (n : ℕ). refusal_by (n % 256) (n / 256)) e
    ∙ refusal_read s

-- no refusal is told by 0
pub code-some : (r : Refusal) → code_of r ≡ 0 → ⊥
code-some (Broken V1 at) e = omega arith
code-some (Broken V2 at) e = omega arith
code-some (Broken V3 at) e = omega arith
code-some (Broken V4 at) e = omega arith
code-some (Broken V5 at) e = omega arith
code-some (Broken V6 at) e = omega arith
code-some Length e = omega arith
code-some Screen e = omega arith
code-some Place e = omega arith
code-some Command e = omega arith
code-some Output e = omega arith
code-some Line e = omega arith
code-some Span e = omega arith
code-some Cell e = omega arith
code-some Page e = omega arith

-- what a call answers is told once, where its value is
pub one_told : {A B : Type 0} (f : A → B) → Once f → Once (told_by f)
one_told f once (Ok a) (Ok b) e = ap Ok (once a b (cc))
one_told f once (Ok a) (Err s) e = cc
one_told f once (Err r) (Ok b) e = cc
one_told f once (Err r) (Err s) e = ap Err (refusal-of r s (cc))

pub one_or_0 : Once code_or_0
one_or_0 (Ok u) (Ok v) e = refl
one_or_0 (Ok u) (Err s) e = absurd (code-some s (sym e))
one_or_0 (Err r) (Ok v) e = absurd (code-some r e)
one_or_0 (Err r) (Err s) e = ap Err (refusal-of r s e)

-- what leaves a call by a `?` is the refusal that came in
pub passed_on : {A : Type 0} (r : Result A Refusal) (e : Refusal) → IsErrAnd r (λ y. y ≡ e) → r ≡ Err e
passed_on (Ok a) e h = absurd h
passed_on (Err y) e h = ap Err h
