-- The line put together from its parts, and how long it is.
use Prim.Native.Nat.{ℕ, ◌+◌, ◌*◌, ◌%◌}
use mathlib.Core.Bool.{true, false}
use mathlib.Core.Path.{◌≡◌, refl, ap, ap₂, sym, ◌∙◌}
use mathlib.Core.List.{List, [], ◌∷◌, ◌++◌, append_assoc}
use native.Mathlib.Nat.{zero-add}
use native.Mathlib.Omega.{arith}
use borrow.Author.Tests.{ne_eqb}
use lib.ListN.{length, length-append}
use Rattle.refusal.specs.declared.Rule.{Rule}
use Rattle.refusal.specs.declared.Rule.TheVariants.{V1, V2, V3, V4, V5, V6}
use Rattle.refusal.specs.declared.Refusal.{Refusal}
use Rattle.refusal.specs.declared.Refusal.TheVariants.{Length, Screen, Place, Command, Output, Line, Span, Cell, Page, Broken}
use Rattle.refusal.specs.Codes.{code_of}
use Rattle.bits.specs.Over.{over}
use Rattle.bits.proofs.Overs.{over-over}
use Rattle.log_text.specs.Text.{lf, decimal_text}
use Rattle.check_saved.specs.Verdict.{number_in, offset_in, placed, valid_line, number_line, placed_line, verdict_line}

abbrev between : List ℕ
between = 32 ∷ 97 ∷ 116 ∷ 32 ∷ []

-- z behind a, which stands at the front
behind : (a z b m o : List ℕ) (n k : ℕ) → n ≡ length a → k ≡ length z → m ≡ over 0 (length a) a b → o ≡ over n k z m
    → o ≡ over 0 (length (a ++ z)) (a ++ z) b
behind a z b m o n k en ek em eo =
    let at : n ≡ 0 + length a = en ∙ sym (zero-add (length a)) in
    eo
    ∙ (λ j. over (at j) (ek j) z (em j))
    ∙ over-over 0 (length a) (length z) a z b (omega arith) refl
    ∙ ap (λ (l : ℕ). over 0 l (a ++ z) b) (sym (length-append a z))

pub length-placed : (x y : ℕ) → length (placed_line x y) ≡ length (decimal_text x) + 5 + length (decimal_text y)
unfolding placed_line
length-placed x y = simp (length-append) (omega arith)

module _ (x y n k : ℕ) (b m₁ m₂ m₃ m₄ : List ℕ) (en : n ≡ length (decimal_text x)) (ek : k ≡ length (decimal_text y)) where
  abbrev first : List ℕ
  first = decimal_text x

  abbrev second : List ℕ
  second = decimal_text y

  pub placed-put : m₁ ≡ over 0 (length first) first b → m₂ ≡ over n 4 between m₁ → m₃ ≡ over (n + 4) (length second) second m₂ → m₄ ≡ over (n + 4 + k) 1 lf m₃
      → m₄ ≡ over 0 (length (placed_line x y)) (placed_line x y) b
  unfolding placed_line
  placed-put e₁ e₂ e₃ e₄ =
      let two : m₂ ≡ over 0 (length (first ++ between)) (first ++ between) b = behind first between b m₁ m₂ n 4 en refl e₁ e₂ in
      let long : n + 4 ≡ length (first ++ between) = simp (length-append) (omega arith) in
      let three : m₃ ≡ over 0 (length (first ++ between ++ second)) (first ++ between ++ second) b =
      behind (first ++ between) second b m₂ m₃ (n + 4) (length second) long refl two e₃ in
      let longer : n + 4 + k ≡ length (first ++ between ++ second) = simp (length-append) (omega arith) in
      let same : first ++ between ++ second ++ lf ≡ first ++ (between ++ (second ++ lf)) = simp append_assoc in
      behind (first ++ between ++ second) lf b m₃ m₄ (n + 4 + k) 1 longer refl three e₄
      ∙ ap (λ (l : List ℕ). over 0 (length l) l b) same

-- ---- which line

line-placed : (n x y : ℕ) → (n ≡ 0 → ⊥) → x ≡ number_in n → y ≡ offset_in n → placed x ≡ true → verdict_line n ≡ placed_line x y
unfolding verdict_line
line-placed n x y some ex ey p = rw (ne_eqb n 0 some, ← ex, ← ey, p)

line-number : (n x : ℕ) → (n ≡ 0 → ⊥) → x ≡ number_in n → placed x ≡ false → verdict_line n ≡ number_line x
unfolding verdict_line
line-number n x some ex p = rw (ne_eqb n 0 some, ← ex, p)

pub line-valid : verdict_line 0 ≡ valid_line
unfolding verdict_line
line-valid = refl

line-broken : (rule : Rule) (at : ℕ) → verdict_line (code_of (Broken rule at)) ≡ placed_line (code_of (Broken rule at) % 256) at
unfolding placed
line-broken V1 at = let e : 21 ≡ (21 + 256 * at) % 256 = omega arith in rw (← e) (line-placed (21 + 256 * at) 21 at (λ z. omega arith) e (omega arith) refl)
line-broken V2 at = let e : 22 ≡ (22 + 256 * at) % 256 = omega arith in rw (← e) (line-placed (22 + 256 * at) 22 at (λ z. omega arith) e (omega arith) refl)
line-broken V3 at = let e : 23 ≡ (23 + 256 * at) % 256 = omega arith in rw (← e) (line-placed (23 + 256 * at) 23 at (λ z. omega arith) e (omega arith) refl)
line-broken V4 at = let e : 24 ≡ (24 + 256 * at) % 256 = omega arith in rw (← e) (line-placed (24 + 256 * at) 24 at (λ z. omega arith) e (omega arith) refl)
line-broken V5 at = let e : 25 ≡ (25 + 256 * at) % 256 = omega arith in rw (← e) (line-placed (25 + 256 * at) 25 at (λ z. omega arith) e (omega arith) refl)
line-broken V6 at = let e : 26 ≡ (26 + 256 * at) % 256 = omega arith in rw (← e) (line-placed (26 + 256 * at) 26 at (λ z. omega arith) e (omega arith) refl)

-- by the number x of a refusal, and the offset of one that comes with it
pub placed-told : (r : Refusal) (rule : Rule) (at x y : ℕ) → r ≡ Broken rule at → x ≡ code_of r % 256 → y ≡ at → verdict_line (code_of r) ≡ placed_line x y
placed-told r rule at x y e ex ey =
    ap (λ (v : Refusal). verdict_line (code_of v)) e
    ∙ line-broken rule at
    ∙ ap₂ placed_line (ap (λ (v : Refusal). code_of v % 256) (sym e) ∙ sym ex) (sym ey)

pub number-told : (r : Refusal) (x : ℕ) → ((rule : Rule) (at : ℕ) → r ≡ Broken rule at → ⊥) → x ≡ code_of r % 256 → verdict_line (code_of r) ≡ number_line x
unfolding placed
number-told Length x none e = line-number 1 x (λ z. omega arith) e (rw e refl)
number-told Screen x none e = line-number 3 x (λ z. omega arith) e (rw e refl)
number-told Place x none e = line-number 4 x (λ z. omega arith) e (rw e refl)
number-told Command x none e = line-number 5 x (λ z. omega arith) e (rw e refl)
number-told Output x none e = line-number 6 x (λ z. omega arith) e (rw e refl)
number-told Line x none e = line-number 7 x (λ z. omega arith) e (rw e refl)
number-told Span x none e = line-number 8 x (λ z. omega arith) e (rw e refl)
number-told Cell x none e = line-number 9 x (λ z. omega arith) e (rw e refl)
number-told Page x none e = line-number 10 x (λ z. omega arith) e (rw e refl)
number-told (Broken rule at) x none e = absurd (none rule at refl)
