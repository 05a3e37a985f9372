-- What is left of a log where only its screens and its picked writes are kept is told by the log's writes, its screens, and the
-- number of screens before each picked write. `R` is a state that writes alone change, and that tells which writes are picked.
use Prim.Native.Nat.{ℕ, zero, suc, ◌-◌}
use native.Mathlib.Omega.{arith}
use mathlib.Core.Path.{◌≡◌, refl, sym, ap, fun_ext, ◌∙◌}
use mathlib.Core.List.{List, [], ◌∷◌, ◌++◌, map}
use mathlib.Core.Option.{Option, none, some, IsSome}
use lib.ListN.{take, drop}
use Rattle.order.specs.Log.{Act, write, screen, writes_of, screens_of, screens_before}

pub data Mark (C : Type 0) : Type 0 where
  shows : List ℕ → Mark C
  does : C → Mark C

module _ {C : Type 0} where
  unfoldable pub keep : Option C → List (Mark C) → List (Mark C)
  keep none l = l
  keep (some c) l = does c ∷ l

  -- the marks of a log, put together from its screens: `k` does so for the writes after the first, of which `o` is the pick
  place : Option C → List (List ℕ) → (ℕ → ℕ) → (List (List ℕ) → (ℕ → ℕ) → List (Mark C)) → List (Mark C)
  place none xs f k = k xs (λ i. f (suc i))
  place (some c) xs f k = map shows (take (f 0) xs) ++ (does c ∷ k (drop (f 0) xs) (λ i. f (suc i) - f 0))

  place-screen : (o : Option C) (x : List ℕ) (xs : List (List ℕ)) (f : ℕ → ℕ) (k : List (List ℕ) → (ℕ → ℕ) → List (Mark C))
      → ((ys : List (List ℕ)) (h : ℕ → ℕ) → k (x ∷ ys) (λ i. suc (h i)) ≡ shows x ∷ k ys h)
      → place o (x ∷ xs) (λ i. suc (f i)) k ≡ shows x ∷ place o xs f k
  unfolding place
  place-screen none x xs f k e = e xs (λ i. f (suc i))
  place-screen (some c) x xs f k e =
      ap (λ h. shows x ∷ (map shows (take (f 0) xs) ++ (does c ∷ k (drop (f 0) xs) h))) (fun_ext (λ i. omega arith))

  -- at a write with no screen before it
  place-first : (o : Option C) (xs : List (List ℕ)) (f : ℕ → ℕ) (k : List (List ℕ) → (ℕ → ℕ) → List (Mark C)) → f 0 ≡ 0
      → place o xs f k ≡ keep o (k xs (λ i. f (suc i)))
  unfolding place keep
  place-first none xs f k e = refl
  place-first (some c) xs f k e = rw e (ap (λ h. does c ∷ k xs h) (fun_ext (λ i. omega arith)))

  -- two counts that agree at the first write, if it is picked, and at the picked ones after it
  place-agree : (o : Option C) (xs : List (List ℕ)) (f g : ℕ → ℕ) (k : List (List ℕ) → (ℕ → ℕ) → List (Mark C))
      → (IsSome o → f 0 ≡ g 0)
      → ((ys : List (List ℕ)) (t : ℕ → ℕ) → k ys (λ i. t (f (suc i))) ≡ k ys (λ i. t (g (suc i))))
      → place o xs f k ≡ place o xs g k
  unfolding place
  place-agree none xs f g k e₀ e = e xs (λ n. n)
  place-agree (some c) xs f g k e₀ e =
      rw (e₀ tt) (ap (λ m. map shows (take (g 0) xs) ++ (does c ∷ m)) (e (drop (g 0) xs) (λ n. n - g 0)))

module _ {R C : Type 0} (next : R → ℕ → R) (pick : R → ℕ → Option C) where
  -- the picked write i of a list of writes
  unfoldable pub pick_at : R → List ℕ → ℕ → Option C
  pick_at r [] i = none
  pick_at r (w ∷ ws) zero = pick r w
  pick_at r (w ∷ ws) (suc i) = pick_at (next r w) ws i

  -- a log without the writes that are not picked
  unfoldable pub sieve : R → List Act → List (Mark C)
  sieve r [] = []
  sieve r (screen x ∷ l) = shows x ∷ sieve r l
  sieve r (write w ∷ l) = keep (pick r w) (sieve (next r w) l)

  sift : R → List ℕ → List (List ℕ) → (ℕ → ℕ) → List (Mark C)
  sift r [] xs f = map shows xs
  sift r (w ∷ ws) xs f = place (pick r w) xs f (λ ys h. sift (next r w) ws ys h)

  sift-screen : (r : R) (ws : List ℕ) (x : List ℕ) (xs : List (List ℕ)) (f : ℕ → ℕ)
      → sift r ws (x ∷ xs) (λ i. suc (f i)) ≡ shows x ∷ sift r ws xs f
  unfolding sift
  sift-screen r [] x xs f = refl
  sift-screen r (w ∷ ws) x xs f = place-screen (pick r w) x xs f _ (λ ys h. sift-screen (next r w) ws x ys h)

  sieve-sift : (r : R) (l : List Act) → sieve r l ≡ sift r (writes_of l) (screens_of l) (screens_before l)
  unfolding sieve sift writes_of screens_of screens_before
  sieve-sift r [] = refl
  sieve-sift r (screen x ∷ l) =
      ap (λ m. shows x ∷ m) (sieve-sift r l) ∙ sym (sift-screen r (writes_of l) x (screens_of l) (screens_before l))
  sieve-sift r (write w ∷ l) =
      ap (keep (pick r w)) (sieve-sift (next r w) l) ∙ sym (place-first (pick r w) (screens_of l) (screens_before (write w ∷ l)) _ refl)

  sift-agree : (r : R) (ws : List ℕ) (xs : List (List ℕ)) (f g : ℕ → ℕ)
      → ((i : ℕ) → IsSome (pick_at r ws i) → f i ≡ g i) → sift r ws xs f ≡ sift r ws xs g
  unfolding sift pick_at
  sift-agree r [] xs f g e = refl
  sift-agree r (w ∷ ws) xs f g e =
      place-agree (pick r w) xs f g _ (e 0)
      (λ ys t. sift-agree (next r w) ws ys (λ i. t (f (suc i))) (λ i. t (g (suc i))) (λ i p. ap t (e (suc i) p)))

  pub sieve-same : (r : R) (a b : List Act) → writes_of a ≡ writes_of b → screens_of a ≡ screens_of b
      → ((i : ℕ) → IsSome (pick_at r (writes_of a) i) → screens_before a i ≡ screens_before b i)
      → sieve r a ≡ sieve r b
  sieve-same r a b ew es e =
      sieve-sift r a
      ∙ sift-agree r (writes_of a) (screens_of a) (screens_before a) (screens_before b) e
      ∙ ap (λ ws. sift r ws (screens_of a) (screens_before b)) ew
      ∙ ap (λ xs. sift r (writes_of b) xs (screens_before b)) es
      ∙ sym (sieve-sift r b)
