-- The length of a list told by a rule, and what stands at each place of it; two rules that agree tell one list.
use mathlib.Core.Path.{◌≡◌, refl, sym, ap, ◌∙◌}
use Prim.Native.Nat.{ℕ, zero, suc, ◌+◌, ◌<◌}
use native.Mathlib.Nat.{not-suc-le-zero, le_of_suc-le-suc, add-zero, zero-add}
use native.Mathlib.Omega.{arith}
use lib.ListN.{length, get_or}
use lib.Seq.{ext_get_or}
use Rattle.bits.specs.Tab.{tab_from, tab}

length-tab_from : (from n : ℕ) (f : ℕ → ℕ) → length (tab_from from n f) ≡ n
unfolding tab_from
length-tab_from from zero f = refl
length-tab_from from (suc n) f = ap suc (length-tab_from (suc from) n f)

get_or-tab_from : (from n : ℕ) (f : ℕ → ℕ) (k : ℕ) → k < n → get_or (tab_from from n f) k 0 ≡ f (from + k)
unfolding tab_from
get_or-tab_from from zero f k h = absurd (not-suc-le-zero h)
get_or-tab_from from (suc n) f zero h = ap f (sym (add-zero from))
get_or-tab_from from (suc n) f (suc k) h =
    let e : suc from + k ≡ from + suc k = omega arith in
    get_or-tab_from (suc from) n f k (le_of_suc-le-suc h) ∙ ap f e

pub length-tab : (n : ℕ) (f : ℕ → ℕ) → length (tab n f) ≡ n
unfolding tab
length-tab n f = length-tab_from 0 n f

pub get_or-tab : (n : ℕ) (f : ℕ → ℕ) (k : ℕ) → k < n → get_or (tab n f) k 0 ≡ f k
unfolding tab
get_or-tab n f k h = get_or-tab_from 0 n f k h ∙ ap f (zero-add k)

pub tab-same : (n : ℕ) (f g : ℕ → ℕ) → ((i : ℕ) → i < n → f i ≡ g i) → tab n f ≡ tab n g
tab-same n f g h =
    ext_get_or 0 (tab n f) (tab n g) (length-tab n f ∙ sym (length-tab n g))
    (λ i lt. let l : i < n = omega (arith, length-tab n f) in get_or-tab n f i l ∙ h i l ∙ sym (get_or-tab n g i l))
