-- Laws of runs of writes: a loop's turn (`painted_turn`), adjoining runs (`painted-run`), and the end, where the run from the front
-- is a `tab` and the kept tail (`painted-tab`) or the whole list (`painted_all`, `painted-rest`).
use mathlib.Core.Path.{◌≡◌, refl, sym, ap, ap₂, ◌∙◌, subst}
use mathlib.Core.Bool.{Bool, true, false}
use mathlib.Core.List.{List, ◌++◌, append-nil}
use Prim.Native.Nat.{ℕ, zero, suc, ◌+◌, ◌≤◌, ◌<◌}
use native.Mathlib.Nat.{add-zero, zero-add, not-suc-le-zero, eq-or-lt_of_le, le_of_suc-le-suc}
use native.Mathlib.Omega.{arith}
use mathlib.Core.Logic.{⊎_elim}
use borrow.Author.Tests.{ltb-true, ltb-false}
use lib.Dec.{ltb}
use lib.ListN.{length, take, drop, get_or, set, length-set, take-append-drop, drop_of_length-le}
use lib.Seq.{ext_get_or, get_or-set_same, get_or-set_other, drop-set-lt, get_or-take, length-take-le}
use Rattle.bits.specs.Paint.{paint, Painted}
use Rattle.bits.specs.Tab.{tab}
use Rattle.bits.proofs.Tabs.{length-tab, get_or-tab}

pub length-paint : (l : List ℕ) (at n : ℕ) (f : ℕ → ℕ) → length (paint l at n f) ≡ length l
unfolding paint
length-paint l at zero f = refl
length-paint l at (suc n) f = simp length-set (length-paint l at n f)

pub painted_none : {l : List ℕ} {at : ℕ} {f : ℕ → ℕ} → Painted l l at 0 f
unfolding paint
painted_none = record { is = refl }

-- a turn
pub painted_turn : {l m : List ℕ} {at n : ℕ} {f : ℕ → ℕ} → Painted m l at n f → (i v : ℕ) → i ≡ at + n → v ≡ f n → Painted (set m i v) l at (n + 1) f
unfolding paint
painted_turn {l} {m} {at} {n} {f} p i v h g =
    let s : suc n ≡ n + 1 = omega arith in
    let e : set m i v ≡ paint l at (suc n) f = λ t. set (p.is t) (h t) (g t) in
    record { is = e ∙ ap (λ (k : ℕ). paint l at k f) s }

pub painted-length : {l m : List ℕ} {at n : ℕ} {f : ℕ → ℕ} → Painted m l at n f → length m ≡ length l
painted-length {l} {m} {at} {n} {f} p = ap length p.is ∙ length-paint l at n f

pub painted-count : {l m : List ℕ} {at n : ℕ} {f : ℕ → ℕ} → Painted m l at n f → (k : ℕ) → n ≡ k → Painted m l at k f
painted-count {l} {m} {at} {n} {f} p k e = record { is = p.is ∙ ap (λ (j : ℕ). paint l at j f) e }

-- only the values at 0 to n - 1 count
pub paint-same : (l : List ℕ) (at n : ℕ) (f g : ℕ → ℕ) → ((i : ℕ) → i < n → f i ≡ g i) → paint l at n f ≡ paint l at n g
unfolding paint
paint-same l at zero f g h = refl
paint-same l at (suc n) f g h = λ t. set (paint-same l at n f g (λ i lt. h i (omega arith)) t) (at + n) (h n (omega arith) t)

pub painted_same : {l m : List ℕ} {at n : ℕ} {f : ℕ → ℕ} → Painted m l at n f → (g : ℕ → ℕ) → ((i : ℕ) → i < n → f i ≡ g i) → Painted m l at n g
painted_same {l} {m} {at} {n} {f} p g h = record { is = p.is ∙ paint-same l at n f g h }

-- a run, and the next one after it
pub paint-more : (l : List ℕ) (at a n : ℕ) (f : ℕ → ℕ) → paint (paint l at a f) (at + a) n (λ i. f (a + i)) ≡ paint l at (a + n) f
unfolding paint
paint-more l at a zero f = ap (λ (k : ℕ). paint l at k f) (sym (add-zero a))
paint-more l at a (suc n) f =
    let e : at + a + n ≡ at + (a + n) = omega arith in
    let s : suc (a + n) ≡ a + suc n = omega arith in
    let step : set (paint (paint l at a f) (at + a) n (λ i. f (a + i))) (at + a + n) (f (a + n)) ≡ paint l at (suc (a + n)) f =
    λ t. set (paint-more l at a n f t) (e t) (f (a + n)) in
    step ∙ ap (λ (k : ℕ). paint l at k f) s

-- a whole run of n after a of them, where each of its values is the rule's
pub painted-run : {l m o : List ℕ} {at a start n : ℕ} {f g : ℕ → ℕ} → Painted m l at a f → Painted o m start n g → start ≡ at + a → ((i : ℕ) → i < n → g i ≡ f (a + i))
    → Painted o l at (a + n) f
painted-run {l} {m} {o} {at} {a} {start} {n} {f} {g} p q e h =
    record {
      is = q.is ∙ (λ t. paint (p.is t) (e t) n g) ∙ paint-same (paint l at a f) (at + a) n g (λ i. f (a + i)) h ∙ paint-more l at a n f;
    }

-- what stands at k: within the run from the front its value, past it what was there
get_or-paint_in : (l : List ℕ) (n : ℕ) (f : ℕ → ℕ) (k : ℕ) → n ≤ length l → k < n → get_or (paint l 0 n f) k 0 ≡ f k
unfolding paint
get_or-paint_in l zero f k h lt = absurd (not-suc-le-zero lt)
get_or-paint_in l (suc n) f k h lt =
    let e : 0 + n ≡ n = zero-add n in
    let long : n < length (paint l 0 n f) = simp length-paint (omega arith) in
    ap (λ (j : ℕ). get_or (set (paint l 0 n f) j (f n)) k 0) e
    ∙ ⊎_elim (λ q. ap (λ (j : ℕ). get_or (set (paint l 0 n f) n (f n)) j 0) q ∙ get_or-set_same (paint l 0 n f) n (f n) 0 long ∙ ap f (sym q))
    (λ less. let ne : k ≡ n → ⊥ = λ q. omega arith in get_or-set_other (paint l 0 n f) n k (f n) 0 ne ∙ get_or-paint_in l n f k (omega arith) less)
    (eq-or-lt_of_le (le_of_suc-le-suc lt))

drop-paint : (l : List ℕ) (n m : ℕ) (f : ℕ → ℕ) → n ≤ m → drop m (paint l 0 n f) ≡ drop m l
unfolding paint
drop-paint l zero m f h = refl
drop-paint l (suc n) m f h = let lt : 0 + n < m = omega arith in drop-set-lt m (paint l 0 n f) (0 + n) (f n) lt ∙ drop-paint l n m f (omega arith)

-- past a run from the front all is as it was
pub painted_past : {l m : List ℕ} {n : ℕ} {f : ℕ → ℕ} → Painted m l 0 n f → (k : ℕ) → n ≤ k → get_or m k 0 ≡ get_or l k 0
unfolding paint
painted_past {l} {m} {n} {f} p k h = ap (λ (x : List ℕ). get_or x k 0) p.is ∙ go n h
  where
    go : (n : ℕ) → n ≤ k → get_or (paint l 0 n f) k 0 ≡ get_or l k 0
    go zero h = refl
    go (suc n) h = let ne : k ≡ 0 + n → ⊥ = λ q. omega arith in get_or-set_other (paint l 0 n f) (0 + n) k (f n) 0 ne ∙ go n (omega arith)

-- the end: the n values, and the tail that was there
pub painted-tab : {l m : List ℕ} {n : ℕ} {f : ℕ → ℕ} → Painted m l 0 n f → n ≤ length l → m ≡ tab n f ++ drop n l
painted-tab {l} {m} {n} {f} p h =
    let long : n ≤ length (paint l 0 n f) = simp length-paint h in
    let front : take n (paint l 0 n f) ≡ tab n f =
    ext_get_or 0 (take n (paint l 0 n f)) (tab n f) (length-take-le n (paint l 0 n f) long ∙ sym (length-tab n f))
    (λ k lt.
    let lt' : k < n = subst (λ (x : ℕ). k < x) (length-take-le n (paint l 0 n f) long) lt in
    get_or-take n (paint l 0 n f) k 0 lt' ∙ get_or-paint_in l n f k h lt' ∙ sym (get_or-tab n f k lt')) in
    p.is ∙ sym (take-append-drop n (paint l 0 n f)) ∙ ap₂ (λ (x y : List ℕ). x ++ y) front (drop-paint l n n f (omega arith))

-- the end, where the run is all of the list
pub painted_all : {l m : List ℕ} {n : ℕ} {f : ℕ → ℕ} → Painted m l 0 n f → length l ≡ n → m ≡ tab n f
painted_all {l} {m} {n} {f} p h =
    let le : n ≤ length l = omega arith in
    let ge : length l ≤ n = omega arith in
    painted-tab p le ∙ ap (λ (x : List ℕ). tab n f ++ x) (drop_of_length-le l ge) ∙ append-nil (tab n f)

-- and where the rest has the rule's values already
pub painted-rest : {l m : List ℕ} {a : ℕ} {f : ℕ → ℕ} → Painted m l 0 a f → (n : ℕ) → length l ≡ n → a ≤ n → ((k : ℕ) → a ≤ k → get_or l k 0 ≡ f k) → m ≡ tab n f
painted-rest {l} {m} {a} {f} p n e h rest =
    ext_get_or 0 m (tab n f) (painted-length p ∙ e ∙ sym (length-tab n f))
    (λ k lt. let less : k < n = omega (arith, painted-length p) in at k (ltb k a) refl ∙ sym (get_or-tab n f k less))
  where
    at : (k : ℕ) (t : Bool) → ltb k a ≡ t → get_or m k 0 ≡ f k
    at k true q = ap (λ (x : List ℕ). get_or x k 0) p.is ∙ get_or-paint_in l a f k (omega arith) (ltb-true k a q)
    at k false q = painted_past p k (ltb-false k a q) ∙ rest k (ltb-false k a q)
