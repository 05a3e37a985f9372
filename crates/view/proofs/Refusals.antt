-- The refusals that every call gives first, once for all calls: the number is not 0 exactly where a refusal stands in the answer.
use Prim.Native.Nat.{ℕ}
use native.Mathlib.Omega.{arith}
use mathlib.Core.Path.{◌≡◌, sym, ap, ◌∙◌, refl, subst}
use mathlib.Core.Bool.{Bool, true, false, cond, ◌&&◌}
use mathlib.Core.List.{List}
use lib.Dec.{eqb}
use lib.ListN.{length}
use borrow.Author.Tests.{eqb-true, eq-eqb, ne_eqb}
use Rattle.pulses.specs.Answer.{Answer, refused, given}
use Rattle.parts.specs.Parts.{block_bytes}
use Rattle.layout.specs.Valid.{valid, valid_parts}
use Rattle.broken.specs.Broken.{broken, broken_number}
use Rattle.broken.proofs.Numbers.{Read, number_read, number-valid}
use Rattle.std.specs.Prelude.{Result, IsErrAnd}
use Rattle.refusal.specs.declared.Refusal.{Refusal}
use Rattle.refusal.specs.Codes.{code_of, told_by}
use Rattle.refusal.proofs.Told.{code-some, passed_on}
use Rattle.view.specs.Refusal.{refusing, refusal_of, Valid}
use Rattle.view.specs.Looks.{leaves}

-- a block of the right length that is not valid breaks one of V1 to V6
pub parts-broken : (b : List ℕ) → eqb (length b) block_bytes ≡ true → valid b ≡ false → valid_parts b ≡ false
unfolding valid
parts-broken b p q = sym (ap (λ t. t && valid_parts b) p) ∙ q

-- and one that is has no number
pub number-or_none : (b : List ℕ) → length b ≡ block_bytes → broken_number (broken b) ≡ cond (valid b) 0 (broken_number (broken b))
unfolding valid
number-or_none b l = rw (eq-eqb (length b) block_bytes l) (go (valid_parts b) refl)
  where
    go : (t : Bool) → valid_parts b ≡ t → broken_number (broken b) ≡ cond t 0 (broken_number (broken b))
    go true e = number-valid b e
    go false e = refl

-- a number that is not 0 is the answer, whatever was asked
pub refuses : {A : Type 0} (b : List ℕ) (a : Answer A) (r : ℕ) → r ≡ refusal_of b → (r ≡ 0 → ⊥) → refused r ≡ refusing b a
unfolding refusing refusal_of
refuses b a r e n = go (eqb (length b) block_bytes) (valid b) e
  where
    go : (s t : Bool) → r ≡ cond s (cond t 0 (broken_number (broken b))) 1 → refused r ≡ cond s (cond t a (refused (broken_number (broken b)))) (refused 1)
    go true true z = absurd (n z)
    go true false z = ap refused z
    go false t z = ap refused z

-- so a refusal of the block leaves the call by its `?`
pub refused_by : {A V : Type 0} (f : V → A) (b : List ℕ) (a : Answer A) (r : Result V Refusal) (e : Refusal) → code_of e ≡ refusal_of b
    → IsErrAnd r (λ y. y ≡ e) → told_by f r ≡ refusing b a
refused_by f b a r e k h = ap (told_by f) (passed_on r e h) ∙ refuses b a (code_of e) k (code-some e)

-- else the block is valid
pub accepts : (b : List ℕ) (r : ℕ) → r ≡ refusal_of b → r ≡ 0 → Valid b
unfolding refusal_of
accepts b r e z = go (eqb (length b) block_bytes) (valid b) refl refl (sym e ∙ z)
  where
    go : (s t : Bool) → eqb (length b) block_bytes ≡ s → valid b ≡ t → cond s (cond t 0 (broken_number (broken b))) 1 ≡ 0 → Valid b
    go true true p q h = record { long = eqb-true (length b) block_bytes p; tested = q }
    go true false p q h = let k = (number_read b (parts-broken b p q)).low in absurd (omega arith)
    go false t p q h = absurd (omega arith)

-- and the answer is what the call has for a valid block
pub answers : {A : Type 0} (b : List ℕ) (a : Answer A) → Valid b → a ≡ refusing b a
unfolding refusing
answers b a v = rw (eq-eqb (length b) block_bytes v.long, v.tested)

-- of the bytes that are known to be valid, which are the block's
pub answers_of : {A : Type 0} (v b : List ℕ) (f : List ℕ → Answer A) → v ≡ b → Valid v → f v ≡ refusing b (f b)
answers_of v b f e k = ap f e ∙ answers b (f b) (subst Valid e k)

-- ---- what the number tells who checks a block: 0, 1, or a rule with its byte. RULES 1.15 and 2.1

pub checks-valid : (b : List ℕ) → Valid b → refusal_of b ≡ 0
unfolding refusal_of
checks-valid b v = rw (eq-eqb (length b) block_bytes v.long, v.tested)

pub checks-length : (b : List ℕ) → (length b ≡ block_bytes → ⊥) → refusal_of b ≡ 1
unfolding refusal_of
checks-length b n = rw (ne_eqb (length b) block_bytes n)

-- its low byte is from 21 to 26 and names the first rule that is broken, and above it stands the lowest byte that breaks it
pub checks-broken : (b : List ℕ) → length b ≡ block_bytes → valid b ≡ false → Read b (refusal_of b)
unfolding refusal_of
checks-broken b l f = let e = eq-eqb (length b) block_bytes l in rw (e, f) (number_read b (parts-broken b e f))

-- ---- what is left in a lent output

-- a refusal leaves every word
pub keeps : {A : Type 0} {n : ℕ} (a : Answer A) (drawn out : List ℕ) → refused n ≡ a → (refused n ≡ a) × (out ≡ leaves a drawn out)
unfolding leaves
keeps a drawn out e = (e, ap (λ (w : Answer _). leaves w drawn out) e)

-- and so does one that leaves by a `?`
pub refused-keeps : {A V : Type 0} (f : V → A) (b : List ℕ) (a : Answer A) (drawn out : List ℕ) (r : Result V Refusal) (e : Refusal)
    → code_of e ≡ refusal_of b → IsErrAnd r (λ y. y ≡ e) → (told_by f r ≡ refusing b a) × (out ≡ leaves (refusing b a) drawn out)
refused-keeps f b a drawn out r e k h =
    (refused_by f b a r e k h, (keeps (refusing b a) drawn out (refuses b a (code_of e) k (code-some e))).1)

-- an answer leaves what is drawn
pub draws : {A : Type 0} {v : A} (a : Answer A) (drawn out left : List ℕ) → given v ≡ a → left ≡ drawn → (given v ≡ a) × (left ≡ leaves a drawn out)
unfolding leaves
draws a drawn out left e d = (e, d ∙ ap (λ (w : Answer _). leaves w drawn out) e)
