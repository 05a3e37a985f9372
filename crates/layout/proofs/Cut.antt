-- A list cut into parts of given sizes, and put together again: one law for each thing that code does to a part.
use mathlib.Core.Path.{◌≡◌, refl, sym, ap, ap₂, ◌∙◌}
use mathlib.Core.List.{List, [], ◌∷◌, ◌++◌, map, append_assoc}
use Prim.Native.Nat.{ℕ, zero, suc, ◌+◌, ◌≤◌, ◌<◌}
use native.Mathlib.Nat.{not-suc-le-zero, le_of_suc-le-suc, add-zero}
use native.Mathlib.Omega.{arith}
use lib.ListN.{length, take, drop, get_or, set, length-append, length-take, length-drop, take-append-drop, drop_of_length-le}
use lib.Seq.{drop-drop, take_at, drop_at, drop-cons}
use Rattle.bits.specs.Over.{part, over}
use Rattle.layout.specs.Block.{flat}
use Rattle.parts.specs.Parts.{sum}

abbrev pub cut : ℕ → List ℕ → List ℕ → List (List ℕ)
cut at [] b = []
cut at (n ∷ ns) b = part at n b ∷ cut (at + n) ns b

pub flat-cut : (at : ℕ) (ns b : List ℕ) → at + sum ns ≡ length b → flat (cut at ns b) ≡ drop at b
flat-cut at [] b h = let k : length b ≤ at = omega arith in sym (drop_of_length-le b k)
flat-cut at (n ∷ ns) b h =
    ap (λ (l : List ℕ). part at n b ++ l) (flat-cut (at + n) ns b (omega arith) ∙ sym (drop-drop n at b))
    ∙ take-append-drop n (drop at b)

pub sizes-cut : (at : ℕ) (ns b : List ℕ) → at + sum ns ≤ length b → map length (cut at ns b) ≡ ns
sizes-cut at [] b h = refl
sizes-cut at (n ∷ ns) b h =
    ap₂ (λ (x : ℕ) (l : List ℕ). x ∷ l)
    (simp (length-take, length-drop) (omega arith))
    (sizes-cut (at + n) ns b (omega arith))

-- a list of parts around the k-th
abbrev pub before : ℕ → List (List ℕ) → List ℕ
before k ps = flat (take k ps)

abbrev pub after : ℕ → List (List ℕ) → List ℕ
after k ps = flat (drop (suc k) ps)

around : (ps : List (List ℕ)) (k : ℕ) → k < length ps → flat ps ≡ before k ps ++ (get_or ps k [] ++ after k ps)
around [] k h = absurd (not-suc-le-zero h)
around (p ∷ ps) zero h = refl
around (p ∷ ps) (suc k) h =
    ap (λ (l : List ℕ). p ++ l) (around ps k (le_of_suc-le-suc h)) ∙ sym (append_assoc p (before k ps) (get_or ps k [] ++ after k ps))

around-set : (ps : List (List ℕ)) (k : ℕ) (ys : List ℕ) → k < length ps → flat (set ps k ys) ≡ before k ps ++ (ys ++ after k ps)
around-set [] k ys h = absurd (not-suc-le-zero h)
around-set (p ∷ ps) zero ys h = refl
around-set (p ∷ ps) (suc k) ys h =
    ap (λ (l : List ℕ). p ++ l) (around-set ps k ys (le_of_suc-le-suc h)) ∙ sym (append_assoc p (before k ps) (ys ++ after k ps))

length_before : (ps : List (List ℕ)) (k : ℕ) → length (before k ps) ≡ sum (take k (map length ps))
length_before ps zero = refl
length_before [] (suc k) = refl
length_before (p ∷ ps) (suc k) = length-append p (before k ps) ∙ ap (λ (n : ℕ). length p + n) (length_before ps k)

length-get_or : (ps : List (List ℕ)) (k : ℕ) → length (get_or ps k []) ≡ get_or (map length ps) k 0
length-get_or [] k = refl
length-get_or (p ∷ ps) zero = refl
length-get_or (p ∷ ps) (suc k) = length-get_or ps k

length-sizes : (ps : List (List ℕ)) → length (map length ps) ≡ length ps
length-sizes [] = refl
length-sizes (p ∷ ps) = ap suc (length-sizes ps)

module _ (ns : List ℕ) (ps : List (List ℕ)) (s : map length ps ≡ ns) (k : ℕ) (h : k < length ns) where
  abbrev start : ℕ
  start = sum (take k ns)

  inside : k < length ps
  inside = omega (arith, ap length s, length-sizes ps)

  starts : length (before k ps) ≡ sum (take k ns)
  starts = length_before ps k ∙ ap (λ (l : List ℕ). sum (take k l)) s

  long : length (get_or ps k []) ≡ get_or ns k 0
  long = length-get_or ps k ∙ ap (λ (l : List ℕ). get_or l k 0) s

  drops : drop (sum (take k ns)) (flat ps) ≡ get_or ps k [] ++ after k ps
  drops = ap (drop (sum (take k ns))) (around ps k inside) ∙ drop_at (before k ps) (get_or ps k [] ++ after k ps) _ starts

  -- reading the k-th part
  pub get-part : part (sum (take k ns)) (get_or ns k 0) (flat ps) ≡ get_or ps k []
  get-part = ap (take (get_or ns k 0)) drops ∙ take_at (get_or ps k []) (after k ps) _ long

  -- writing the k-th part
  pub put-part : (ys : List ℕ) → over (sum (take k ns)) (get_or ns k 0) ys (flat ps) ≡ flat (set ps k ys)
  put-part ys =
      ap₂ (λ (a z : List ℕ). a ++ (ys ++ z))
      (ap (take (sum (take k ns))) (around ps k inside) ∙ take_at (before k ps) (get_or ps k [] ++ after k ps) _ starts)
      (ap (drop (get_or ns k 0)) drops ∙ drop_at (get_or ps k []) (after k ps) _ long)
      ∙ sym (around-set ps k ys inside)

map-set : (ps : List (List ℕ)) (k : ℕ) (ys : List ℕ) → length ys ≡ get_or (map length ps) k 0 → map length (set ps k ys) ≡ map length ps
map-set [] k ys e = refl
map-set (p ∷ ps) zero ys e = ap (λ (n : ℕ). n ∷ map length ps) e
map-set (p ∷ ps) (suc k) ys e = ap (λ (l : List ℕ). length p ∷ l) (map-set ps k ys e)

-- a part of the right length keeps the sizes
pub put-sized : (ns : List ℕ) (ps : List (List ℕ)) → map length ps ≡ ns → (k : ℕ) (ys : List ℕ) → length ys ≡ get_or ns k 0 → map length (set ps k ys) ≡ ns
put-sized ns ps s k ys e = map-set ps k ys (e ∙ ap (λ (l : List ℕ). get_or l k 0) (sym s)) ∙ s

-- k elements read one by one, then t
abbrev pub heads : ℕ → ℕ → List ℕ → List ℕ → List ℕ
heads zero at b t = t
heads (suc k) at b t = get_or b at 0 ∷ heads k (suc at) b t

pub heads-eq : (k at : ℕ) (b : List ℕ) → at + k ≤ length b → heads k at b (drop (at + k) b) ≡ drop at b
heads-eq zero at b h = ap (λ (n : ℕ). drop n b) (add-zero at)
heads-eq (suc k) at b h =
    let e : at + suc k ≡ suc at + k = omega arith in
    ap (λ (n : ℕ). get_or b at 0 ∷ heads k (suc at) b (drop n b)) e
    ∙ ap (λ (l : List ℕ). get_or b at 0 ∷ l) (heads-eq k (suc at) b (omega arith))
    ∙ sym (drop-cons b at 0 (omega arith))

-- the parts' lengths are the whole's
pub length-flat : (ps : List (List ℕ)) → length (flat ps) ≡ sum (map length ps)
length-flat [] = refl
length-flat (p ∷ ps) = length-append p (flat ps) ∙ ap (λ (n : ℕ). length p + n) (length-flat ps)
