-- The first broken rule and its byte as one number: which rule gives it, and that both are read off it again.
use Prim.Native.Nat.{ℕ, suc, ◌+◌, ◌-◌, ◌*◌, ◌/◌, ◌%◌, ◌≤◌}
use native.Mathlib.Nat.{add-zero}
use native.Mathlib.Omega.{arith}
use lib.ListN.{length}
use mathlib.Core.Path.{◌≡◌, refl, sym, ap, ◌∙◌, subst}
use mathlib.Core.Bool.{true, false, false≢true}
use mathlib.Core.List.{List, [], ◌∷◌, ◌++◌}
use mathlib.Core.Option.{Option, none, some}
use Rattle.layout.specs.Valid.{v1, v2, v3, v4, v5, v6, valid_parts}
use Rattle.broken.specs.Broken.{Asked, Broken, lowest, asks1, asks2, asks3, asks4, asks5, asks6, front_rules, broken_or, first_of, broken, number_of, broken_number}
use Rattle.broken.specs.Told.{First}
use Rattle.broken.proofs.Lowest.{all_hold, is_none, none-holds}
use Rattle.broken.proofs.Asking.{asks1_are, asks2_are, asks3_are, asks4_are, asks5_are, asks6_are}
use Rattle.broken.proofs.Brokens.{none_if-valid, broken-first}

-- ---- rule after rule

module _ (n : ℕ) (l : List Asked) (rs : List (List Asked)) where
  pub number-here : all_hold l ≡ false → number_of (20 + n) (lowest l) ≡ broken_number (first_of n (l ∷ rs))
  unfolding number_of broken_number first_of broken_or is_none
  number-here f = go (lowest l) (none-holds l ∙ f)
    where
      go : (y : Option ℕ) → is_none y ≡ false → number_of (20 + n) y ≡ broken_number (broken_or n y (first_of (suc n) rs))
      go none e = absurd (false≢true (sym e))
      go (some at) e = refl

  pub number-next : all_hold l ≡ true → broken_number (first_of (suc n) rs) ≡ broken_number (first_of n (l ∷ rs))
  unfolding first_of broken_or is_none
  number-next h = go (lowest l) (none-holds l ∙ h)
    where
      go : (y : Option ℕ) → is_none y ≡ true → broken_number (first_of (suc n) rs) ≡ broken_number (broken_or n y (first_of (suc n) rs))
      go none e = refl
      go (some at) e = absurd (false≢true e)

-- ---- read off the number

-- a valid block has none
pub number-valid : (b : List ℕ) → valid_parts b ≡ true → broken_number (broken b) ≡ 0
unfolding broken_number is_none
number-valid b h = go (broken b) (none_if-valid b ∙ h)
  where
    go : (o : Option Broken) → is_none o ≡ true → broken_number o ≡ 0
    go none e = refl
    go (some r) e = absurd (false≢true e)

-- a block that is not valid has such a number
pub record Read (b : List ℕ) (n : ℕ) : Type 0 where
  pub low : (21 ≤ n % 256) × (n % 256 ≤ 26)
  pub first : First b (record { rule = n % 256 - 20; at = n / 256 })

pub number_read : (b : List ℕ) → valid_parts b ≡ false → Read b (broken_number (broken b))
unfolding broken_number is_none
number_read b f = go (broken b) refl (none_if-valid b ∙ f)
  where
    go : (o : Option Broken) → broken b ≡ o → is_none (broken b) ≡ false → Read b (broken_number o)
    go none e z = absurd (false≢true (sym z ∙ ap is_none e))
    go (some r) e z =
        let t = broken-first b r e in
        let six = t.one_of_six in
        let low : (20 + r.rule + 256 * r.at) % 256 ≡ 20 + r.rule = omega arith in
        let high : (20 + r.rule + 256 * r.at) / 256 ≡ r.at = omega arith in
        let rule : r.rule ≡ (20 + r.rule + 256 * r.at) % 256 - 20 = omega arith in
        record {
          low = (omega arith, omega arith);
          first = subst (First b) (λ i. record { rule = rule i; at = sym high i }) t;
        }

-- ---- rules, and more behind them

kept_step : (n : ℕ) (y : Option ℕ) (x z : Option Broken) → ((broken_number x ≡ 0 → ⊥) → broken_number x ≡ broken_number z)
    → (broken_number (broken_or n y x) ≡ 0 → ⊥) → broken_number (broken_or n y x) ≡ broken_number (broken_or n y z)
unfolding broken_or
kept_step n none x z f h = f h
kept_step n (some at) x z f h = refl

-- where one of the first is broken, it is told
pub number-kept : (n : ℕ) (rs more : List (List Asked)) → (broken_number (first_of n rs) ≡ 0 → ⊥) → broken_number (first_of n rs) ≡ broken_number (first_of n (rs ++ more))
unfolding first_of broken_number
number-kept n [] more h = absurd (h refl)
number-kept n (l ∷ rs) more h = kept_step n (lowest l) (first_of (suc n) rs) (first_of (suc n) (rs ++ more)) (number-kept (suc n) rs more) h

past-step : (n m : ℕ) (y : Option ℕ) (x z : Option Broken) → (broken_number x ≡ 0 → m ≡ broken_number z) → broken_number (broken_or n y x) ≡ 0
    → m ≡ broken_number (broken_or n y z)
unfolding broken_or broken_number
past-step n m none x z f h = f h
past-step n m (some at) x z f h = absurd (omega (arith, h))

-- and else the first of those behind
pub number_past : (n : ℕ) (rs more : List (List Asked)) → broken_number (first_of n rs) ≡ 0 → broken_number (first_of (n + length rs) more) ≡ broken_number (first_of n (rs ++ more))
unfolding first_of
number_past n [] more h = ap (λ (k : ℕ). broken_number (first_of k more)) (add-zero n)
number_past n (l ∷ rs) more h =
    let step : n + suc (length rs) ≡ suc n + length rs = omega arith in
    ap (λ (k : ℕ). broken_number (first_of k more)) step
    ∙ past-step n _ (lowest l) (first_of (suc n) rs) (first_of (suc n) (rs ++ more)) (number_past (suc n) rs more) h

-- ---- past the rules V1 to V5 that hold, one after another, and at the one that does not, whatever comes behind them

module _ (b : List ℕ) (more : List (List Asked)) where
  abbrev Whole : ℕ
  Whole = broken_number (first_of 1 (asks1 b ∷ asks2 b ∷ asks3 b ∷ asks4 b ∷ asks5 b ∷ more))

  abbrev Rest : ℕ → List (List Asked) → Type 0
  Rest n rs = broken_number (first_of n rs) ≡ Whole

  abbrev Told : ℕ → List Asked → Type 0
  Told n l = number_of (20 + n) (lowest l) ≡ Whole

  pub told-1 : v1 b ≡ false → Told 1 (asks1 b)
  told-1 f = number-here 1 (asks1 b) (asks2 b ∷ asks3 b ∷ asks4 b ∷ asks5 b ∷ more) (asks1_are b ∙ f)

  past-1 : v1 b ≡ true → Rest 2 (asks2 b ∷ asks3 b ∷ asks4 b ∷ asks5 b ∷ more)
  past-1 h = number-next 1 (asks1 b) (asks2 b ∷ asks3 b ∷ asks4 b ∷ asks5 b ∷ more) (asks1_are b ∙ h)

  pub told-2 : v1 b ≡ true → v2 b ≡ false → Told 2 (asks2 b)
  told-2 p f = number-here 2 (asks2 b) (asks3 b ∷ asks4 b ∷ asks5 b ∷ more) (asks2_are b ∙ f) ∙ past-1 p

  past-2 : v1 b ≡ true → v2 b ≡ true → Rest 3 (asks3 b ∷ asks4 b ∷ asks5 b ∷ more)
  past-2 p h = number-next 2 (asks2 b) (asks3 b ∷ asks4 b ∷ asks5 b ∷ more) (asks2_are b ∙ h) ∙ past-1 p

  pub told-3 : v1 b ≡ true → v2 b ≡ true → v3 b ≡ false → Told 3 (asks3 b)
  told-3 p q f = number-here 3 (asks3 b) (asks4 b ∷ asks5 b ∷ more) (asks3_are b ∙ f) ∙ past-2 p q

  past-3 : v1 b ≡ true → v2 b ≡ true → v3 b ≡ true → Rest 4 (asks4 b ∷ asks5 b ∷ more)
  past-3 p q h = number-next 3 (asks3 b) (asks4 b ∷ asks5 b ∷ more) (asks3_are b ∙ h) ∙ past-2 p q

  pub told-4 : v1 b ≡ true → v2 b ≡ true → v3 b ≡ true → v4 b ≡ false → Told 4 (asks4 b)
  told-4 p q r f = number-here 4 (asks4 b) (asks5 b ∷ more) (asks4_are b ∙ f) ∙ past-3 p q r

  past-4 : v1 b ≡ true → v2 b ≡ true → v3 b ≡ true → v4 b ≡ true → Rest 5 (asks5 b ∷ more)
  past-4 p q r h = number-next 4 (asks4 b) (asks5 b ∷ more) (asks4_are b ∙ h) ∙ past-3 p q r

  pub told-5 : v1 b ≡ true → v2 b ≡ true → v3 b ≡ true → v4 b ≡ true → v5 b ≡ false → Told 5 (asks5 b)
  told-5 p q r s f = number-here 5 (asks5 b) more (asks5_are b ∙ f) ∙ past-4 p q r s

  pub past-5 : v1 b ≡ true → v2 b ≡ true → v3 b ≡ true → v4 b ≡ true → v5 b ≡ true → Rest 6 more
  past-5 p q r s h = number-next 5 (asks5 b) more (asks5_are b ∙ h) ∙ past-4 p q r s

-- where all five hold, nothing is told of them
pub told_none : (b : List ℕ) → v1 b ≡ true → v2 b ≡ true → v3 b ≡ true → v4 b ≡ true → v5 b ≡ true → 0 ≡ broken_number (first_of 1 (front_rules b))
unfolding broken_number first_of
told_none b = past-5 b []

-- ---- V6 behind them

module _ (b : List ℕ) where
  -- one of the five
  pub told-front : (broken_number (first_of 1 (front_rules b)) ≡ 0 → ⊥) → broken_number (first_of 1 (front_rules b)) ≡ broken_number (broken b)
  unfolding broken
  told-front h = number-kept 1 (front_rules b) (asks6 b ∷ []) h

  pub told-6 : broken_number (first_of 1 (front_rules b)) ≡ 0 → v6 b ≡ false → number_of 26 (lowest (asks6 b)) ≡ broken_number (broken b)
  unfolding broken
  told-6 z f = number-here 6 (asks6 b) [] (asks6_are b ∙ f) ∙ number_past 1 (front_rules b) (asks6 b ∷ []) z

  pub told-all : broken_number (first_of 1 (front_rules b)) ≡ 0 → v6 b ≡ true → 0 ≡ broken_number (broken b)
  told-all z h = unfold broken_number first_of broken in number-next 6 (asks6 b) [] (asks6_are b ∙ h) ∙ number_past 1 (front_rules b) (asks6 b ∷ []) z
