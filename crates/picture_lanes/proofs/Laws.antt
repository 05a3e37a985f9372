-- What a shift and a mask take out of lanes is what was put in, since each number is below 16; lanes add lane by lane.
-- Assumes nothing.
use mathlib.Core.Path.{◌≡◌, refl, sym, ap, ◌∙◌}
use Prim.Native.Nat.{ℕ, zero, suc, ◌+◌, ◌*◌, ◌/◌, ◌%◌, ◌^◌, ◌<◌, ◌≤◌}
use native.Mathlib.Nat.{not-suc-le-zero, le_of_suc-le-suc, div-div-eq-div-mul, zero-div}
use native.Mathlib.Omega.{arith}
use lib.Pow.{pow-add}
use Rattle.picture_lanes.specs.Lanes.{lanes, lane}

first : (a r : ℕ) → a < 16 → (a + 16 * r) / 1 % 16 ≡ a
first a r h = omega arith

rest : (a r : ℕ) → a < 16 → (a + 16 * r) / 16 ≡ r
rest a r h = omega arith

pub lane_at : (n : ℕ) (f : ℕ → ℕ) → ((i : ℕ) → f i < 16) → (j : ℕ) → j < n → lane (lanes n f) j ≡ f j
unfolding lanes lane
lane_at zero f h j lt = absurd (not-suc-le-zero lt)
lane_at (suc n) f h zero lt = first (f 0) (lanes n (λ i. f (suc i))) (h 0)
lane_at (suc n) f h (suc j) lt =
    let e : 4 * suc j ≡ 4 + 4 * j = omega arith in
    let r : ℕ = lanes n (λ i. f (suc i)) in
    ap (λ (k : ℕ). (f 0 + 16 * r) / k % 16) (ap (λ (k : ℕ). 2 ^ k) e ∙ pow-add 2 4 (4 * j))
    ∙ ap (λ (k : ℕ). k % 16) (sym (div-div-eq-div-mul (f 0 + 16 * r) 16 (2 ^ (4 * j))) ∙ ap (λ (k : ℕ). k / 2 ^ (4 * j)) (rest (f 0) r (h 0)))
    ∙ lane_at n (λ i. f (suc i)) (λ i. h (suc i)) j (le_of_suc-le-suc lt)

pub lane-zero : (l j : ℕ) → l ≡ 0 → lane l j ≡ 0
unfolding lane
lane-zero l j e = ap (λ (n : ℕ). n / 2 ^ (4 * j) % 16) e ∙ ap (λ (n : ℕ). n % 16) (zero-div (2 ^ (4 * j)))

-- lane by lane: only the first n count, and twice one added to another
pub lanes-same : (n : ℕ) (f g : ℕ → ℕ) → ((i : ℕ) → i < n → f i ≡ g i) → lanes n f ≡ lanes n g
unfolding lanes
lanes-same zero f g h = refl
lanes-same (suc n) f g h = λ t. h 0 (omega arith) t + 16 * lanes-same n (λ i. f (suc i)) (λ i. g (suc i)) (λ i lt. h (suc i) (omega arith)) t

twice : (a b c d e : ℕ) → c + d * 2 ≡ e → a + 16 * c + (b + 16 * d) * 2 ≡ a + b * 2 + 16 * e
twice a b c d e h = omega arith

pub lanes-twice : (n : ℕ) (f g : ℕ → ℕ) → lanes n f + lanes n g * 2 ≡ lanes n (λ i. f i + g i * 2)
unfolding lanes
lanes-twice zero f g = refl
lanes-twice (suc n) f g = twice (f 0) (g 0) _ _ _ (lanes-twice n (λ i. f (suc i)) (λ i. g (suc i)))

-- lanes of one bit each
top : (a c t : ℕ) → a < 2 → c ≤ t → a + 16 * c ≤ 1 + 16 * t
top a c t h k = omega arith

pub lanes-bits : (n : ℕ) (f : ℕ → ℕ) → ((i : ℕ) → f i < 2) → lanes n f ≤ lanes n (λ i. 1)
unfolding lanes
lanes-bits zero f h = omega arith
lanes-bits (suc n) f h = top (f 0) _ _ (h 0) (lanes-bits n (λ i. f (suc i)) (λ i. h (suc i)))
