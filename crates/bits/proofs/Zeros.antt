-- A list has nothing but zeros exactly if each element is zero. Past its end it has nothing, which is read as zero.
use mathlib.Core.Path.{◌≡◌, refl, sym}
use mathlib.Core.Bool.{Bool, true, false, ◌&&◌}
use mathlib.Core.List.{List, [], ◌∷◌}
use Prim.Native.Nat.{ℕ, zero, suc, ◌+◌, ◌≤◌, ◌<◌, zero-le, suc-le-suc}
use native.Mathlib.Numerals.{add-one}
use native.Mathlib.Omega.{arith}
use borrow.Author.Tests.{eq-eqb, ne_eqb, eqb-true, eqb-false}
use lib.Bits.{bit_or, or_add_and, and_le_l, and_le_r}
use lib.ListN.{length, get_or, drop, replicate, drop_of_length-le}
use lib.Seq.{drop-cons}
use lib.Dec.{eqb}
use Rattle.bits.specs.Zero.{zeros}
use Rattle.bits.proofs.Tests.{and_left, and_right, and_assoc, and_yes}

-- ---- a turn of the loop that looks at all of them, and its end

pub or-zero : (a b : ℕ) → eqb (bit_or a b) 0 ≡ (eqb a 0 && eqb b 0)
or-zero a b = go (eqb a 0) (eqb b 0) refl refl where
  go : (t u : Bool) → eqb a 0 ≡ t → eqb b 0 ≡ u → eqb (bit_or a b) 0 ≡ (t && u)
  go true true e f = eq-eqb (bit_or a b) 0 (omega (arith, or_add_and a b, eqb-true a 0 e, eqb-true b 0 f))
  go true false e f = ne_eqb (bit_or a b) 0 (λ z. eqb-false b 0 f (omega (arith, z, or_add_and a b, and_le_l a b)))
  go false u e f = ne_eqb (bit_or a b) 0 (λ z. eqb-false a 0 e (omega (arith, z, or_add_and a b, and_le_r a b)))

pub zeros_turn : (s : List ℕ) (i all : ℕ) → i < length s → (eqb all 0 && zeros (drop i s)) ≡ (eqb (bit_or all (get_or s i 0)) 0 && zeros (drop (i + 1) s))
unfolding zeros
zeros_turn s i all h = rw (add-one, drop-cons s i 0 h, or-zero) (sym (and_assoc (eqb all 0) (eqb (get_or s i 0) 0) (zeros (drop (suc i) s))))

pub zeros_end : (s : List ℕ) (i all : ℕ) → length s ≤ i → (eqb all 0 && zeros (drop i s)) ≡ eqb all 0
unfolding zeros
zeros_end s i all h = rw (drop_of_length-le s {i = i} h) (and_yes (eqb all 0))

-- nothing but zeros is so many zeros, and so many zeros are nothing else
pub zeros-replicate : (l : List ℕ) → zeros l ≡ true → replicate (length l) 0 ≡ l
unfolding zeros
zeros-replicate [] e = refl
zeros-replicate (x ∷ xs) e = λ t. sym (eqb-true x 0 (and_left (eqb x 0) (zeros xs) e)) t ∷ zeros-replicate xs (and_right (eqb x 0) (zeros xs) e) t

pub replicate-zeros : (n : ℕ) → zeros (replicate n 0) ≡ true
unfolding zeros
replicate-zeros zero = refl
replicate-zeros (suc n) = replicate-zeros n

pub zeros_at : (l : List ℕ) → zeros l ≡ true → (k : ℕ) → get_or l k 0 ≡ 0
unfolding zeros
zeros_at [] e k = refl
zeros_at (x ∷ xs) e zero = eqb-true x 0 (and_left (eqb x 0) (zeros xs) e)
zeros_at (x ∷ xs) e (suc k) = zeros_at xs (and_right (eqb x 0) (zeros xs) e) k

-- a list of which each element is zero is so many zeros
pub all-zeros : (l : List ℕ) → ((k : ℕ) → k < length l → get_or l k 0 ≡ 0) → l ≡ replicate (length l) 0
all-zeros [] h = refl
all-zeros (x ∷ xs) h = λ t. h 0 (suc-le-suc zero-le) t ∷ all-zeros xs (λ k lt. h (suc k) (suc-le-suc lt)) t

pub zeros-drop : (k : ℕ) (l : List ℕ) → zeros l ≡ true → zeros (drop k l) ≡ true
unfolding zeros
zeros-drop zero l h = h
zeros-drop (suc k) [] h = h
zeros-drop (suc k) (x ∷ l) h = zeros-drop k l (and_right (eqb x 0) (zeros l) h)

pub past_end : (l : List ℕ) (k : ℕ) → length l ≤ k → get_or l k 0 ≡ 0
past_end [] k h = refl
past_end (x ∷ xs) zero h = absurd (omega arith)
past_end (x ∷ xs) (suc k) h = past_end xs k (omega arith)
