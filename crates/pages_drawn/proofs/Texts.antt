-- What is due of an input, by what the call answered: `10` where it is no page, else the graymap of its screen.
use Prim.Native.Nat.{ℕ, ◌%◌}
use mathlib.Core.Path.{◌≡◌, refl, ap, sym, ◌∙◌}
use mathlib.Core.Bool.{true, false}
use mathlib.Core.List.{List, ◌++◌}
use native.Mathlib.Omega.{arith}
use borrow.Author.Tests.{ne_eqb, eqb-true, eqb-false}
use lib.Dec.{eqb}
use lib.ListN.{length, length-append}
use Rattle.parts.specs.Parts.{capture_bytes}
use Rattle.bits.specs.Answer.{refused, given}
use Rattle.bits.specs.Over.{over}
use Rattle.bits.proofs.Overs.{over_all}
use Rattle.bits.proofs.Tests.{either}
use Rattle.transfer.specs.Page.{page_bytes}
use Rattle.pages.specs.Pixels.{screen_of, page_screen_answer, page_screen_left}
use Rattle.pages.proofs.Calling.{no-page, made}
use Rattle.log_text.specs.Text.{number_line}
use Rattle.pages_drawn.specs.Graymap.{graymap_of, page_text}
use Rattle.pages_drawn.specs.Lent.{input_bytes}

-- ---- by what `page_screen` answered; here the output never lacks room

module _ (came screen : List ℕ) (room : length screen ≡ capture_bytes) where
  answer-page : eqb (length came) page_bytes ≡ true
      → (given capture_bytes ≡ page_screen_answer came screen) × (over 0 capture_bytes (screen_of came) screen ≡ page_screen_left came screen)
  answer-page t = made came screen (screen_of came) (eqb-true (length came) page_bytes t) (omega arith) refl

  answer-other : eqb (length came) page_bytes ≡ false → refused 10 ≡ page_screen_answer came screen
  answer-other f = (no-page came screen (eqb-false (length came) page_bytes f)).0

  pub text-refused : (n x : ℕ) → refused n ≡ page_screen_answer came screen → x ≡ n % 256 → page_text came ≡ number_line x
  unfolding page_text
  text-refused n x e ex =
      either (λ l. l ≡ number_line x) (eqb (length came) page_bytes)
      (λ t. let is = (answer-page t).0 in absurd (let z : ◌≡◌ {A = ℕ} 0 1 = cc in omega arith))
      (λ f. let is = answer-other f in let ten : n ≡ 10 = cc in ap number_line (omega arith))

  -- the graymap of what it left in the screen
  pub text-given : (n : ℕ) (left : List ℕ) → given n ≡ page_screen_answer came screen → left ≡ page_screen_left came screen
      → page_text came ≡ graymap_of left
  unfolding page_text
  text-given n left e el =
      either (λ l. l ≡ graymap_of left) (eqb (length came) page_bytes)
      (λ t. ap graymap_of (sym (el ∙ sym (answer-page t).1 ∙ over_all capture_bytes (screen_of came) screen room)))
      (λ f. let is = answer-other f in absurd (let z : ◌≡◌ {A = ℕ} 0 1 = cc in omega arith))

-- ---- one byte more than a page has

text_other : (input : List ℕ) → (length input ≡ page_bytes → ⊥) → page_text input ≡ number_line 10
unfolding page_text
text_other input h = rw (ne_eqb (length input) page_bytes h)

pub however_it-goes_on : (came rest : List ℕ) → length came ≡ input_bytes → page_text came ≡ page_text (came ++ rest)
however_it-goes_on came rest long =
    text_other came (λ k. omega arith) ∙ sym (text_other (came ++ rest) (λ k. omega (arith, length-append came rest)))
