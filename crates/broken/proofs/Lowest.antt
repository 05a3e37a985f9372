-- The lowest byte of what is not so: there is none exactly if all is so; it is the byte of something that is not; nothing that is not so has
-- a lower one. Two lists together have the lower of both.
use Prim.Native.Nat.{ℕ, zero, suc, ◌+◌, ◌≤◌, ◌<◌, min}
use native.Mathlib.Nat.{min-le_left, min-le_right, min-eq_left, min-eq_right, min_comm}
use native.Mathlib.Omega.{arith}
use mathlib.Core.Path.{◌≡◌, refl, sym, ap, ◌∙◌, subst}
use mathlib.Core.Bool.{Bool, true, false, cond, ◌&&◌, false≢true}
use mathlib.Core.List.{List, [], ◌∷◌, ◌++◌}
use mathlib.Core.Logic.{◌⊎◌, inl, inr}
use mathlib.Core.Option.{Option, none, some}
use borrow.Author.Tests.{leb-true, leb-false}
use lib.Dec.{eqb, leb}
use Rattle.bits.specs.Zero.{zeros}
use Rattle.bits.proofs.Tests.{and_assoc}
use Rattle.broken.specs.Broken.{Asked, asked, zero_from, byte_of, lower, lowest}
use Rattle.broken.specs.Told.{Tells, Least}

-- whether all is so
unfoldable pub all_hold : List Asked → Bool
all_hold [] = true
all_hold (a ∷ l) = a.holds && all_hold l

unfoldable pub is_none : {A : Type 0} → Option A → Bool
is_none none = true
is_none (some x) = false

some-not_none : {A : Type 0} (x : A) → some x ≡ none → ⊥
unfolding is_none
some-not_none x e = false≢true (ap is_none e)

pub none-holds : (l : List Asked) → is_none (lowest l) ≡ all_hold l
unfolding is_none lowest lower byte_of all_hold
none-holds [] = refl
none-holds (a ∷ l) = go a.holds (lowest l) (none-holds l)
  where
    go : (t : Bool) (y : Option ℕ) → is_none y ≡ all_hold l → is_none (lower (cond t none (some a.at)) y) ≡ (t && all_hold l)
    go true y e = e
    go false none e = refl
    go false (some m) e = refl

-- ---- the lowest

least-below : (m n : ℕ) (l : List Asked) → m ≤ n → Least n l → Least m l
unfolding Least
least-below m n [] h p = tt
least-below m n (a ∷ l) h p = ((λ f. let k = p.0 f in omega arith), least-below m n l h p.1)

-- what each outcome says: none is lower than any byte
unfoldable pub Found : Option ℕ → List Asked → Type 0
Found none l = (n : ℕ) → Least n l
Found (some n) l = Tells n l × Least n l

either_way : (t : Bool) → (t ≡ true) ⊎ (t ≡ false)
either_way true = inl refl
either_way false = inr refl

pub lowest_found : (l : List Asked) → Found (lowest l) l
unfolding lowest lower byte_of Found Tells Least
lowest_found [] = λ n. tt
lowest_found (a ∷ l) = go a.holds (lowest l) refl (lowest_found l)
  where
    pick : (m : ℕ) → a.holds ≡ false → Tells m l → (leb a.at m ≡ true) ⊎ (leb a.at m ≡ false)
        → ((a.holds ≡ false) × (a.at ≡ min a.at m)) ⊎ Tells (min a.at m) l
    pick m p t (inl u) = inl (p, sym (min-eq_left (leb-true a.at m u)))
    pick m p t (inr u) = let k = leb-false a.at m u in let h : m ≤ a.at = omega arith in inr (subst (λ j. Tells j l) (sym (min-eq_right h)) t)

    go : (t : Bool) (y : Option ℕ) → a.holds ≡ t → Found y l → Found (lower (cond t none (some a.at)) y) (a ∷ l)
    go true none p f = λ n. ((λ q. absurd (false≢true (sym q ∙ p))), f n)
    go true (some m) p f = (inr f.0, ((λ q. absurd (false≢true (sym q ∙ p))), f.1))
    go false none p f = (inl (p, refl), ((λ q. omega arith), f a.at))
    go false (some m) p f = (
      pick m p f.0 (either_way (leb a.at m)),
      ((λ q. min-le_left a.at m), least-below (min a.at m) m l (min-le_right a.at m) f.1),
    )

pub lowest-tells : (n : ℕ) (l : List Asked) → lowest l ≡ some n → Tells n l × Least n l
unfolding Found
lowest-tells n l e = subst (λ y. Found y l) e (lowest_found l)

-- ---- two lists together

pub lower_none : (y : Option ℕ) → y ≡ lower y none
unfolding lower
lower_none none = refl
lower_none (some n) = refl

min_assoc : (n m k : ℕ) → min (min n m) k ≡ min n (min m k)
min_assoc n m k = omega arith

lower_assoc : (x y z : Option ℕ) → lower (lower x y) z ≡ lower x (lower y z)
unfolding lower
lower_assoc none y z = refl
lower_assoc (some n) none z = refl
lower_assoc (some n) (some m) none = refl
lower_assoc (some n) (some m) (some k) = ap some (min_assoc n m k)

pub lower_comm : (x y : Option ℕ) → lower x y ≡ lower y x
unfolding lower
lower_comm none y = lower_none y
lower_comm (some n) none = refl
lower_comm (some n) (some m) = ap some (min_comm n m)

pub lowest-append : (k l : List Asked) → lowest (k ++ l) ≡ lower (lowest k) (lowest l)
unfolding lowest
lowest-append [] l = unfold lower in refl
lowest-append (a ∷ k) l = ap (lower (byte_of a)) (lowest-append k l) ∙ sym (lower_assoc (byte_of a) (lowest k) (lowest l))

pub hold-append : (k l : List Asked) → all_hold (k ++ l) ≡ (all_hold k && all_hold l)
unfolding all_hold
hold-append [] l = refl
hold-append (a ∷ k) l = ap (λ t. a.holds && t) (hold-append k l) ∙ sym (and_assoc a.holds (all_hold k) (all_hold l))

-- ---- bytes that are asked to be zero

pub hold-zero : (at : ℕ) (l : List ℕ) → all_hold (zero_from at l) ≡ zeros l
unfolding all_hold zero_from zeros
hold-zero at [] = refl
hold-zero at (x ∷ l) = ap (λ t. eqb x 0 && t) (hold-zero (suc at) l)
