-- The answer and every lent byte of `page_screen`, case by case; and what its caller knows where it is not refused.
use mathlib.Core.Path.{◌≡◌, refl, ap, ◌∙◌}
use mathlib.Core.Bool.{Bool, true, false, cond}
use mathlib.Core.List.{List, ◌++◌}
use Prim.Native.Nat.{ℕ, ◌<◌, ◌≤◌}
use borrow.Author.Tests.{eq-eqb, ne_eqb, eqb-true, le-leb, lt-leb}
use lib.Dec.{eqb, leb}
use lib.ListN.{length, take, drop}
use lib.Seq.{take_at}
use Rattle.parts.specs.Parts.{capture_bytes}
use Rattle.bits.specs.Answer.{Answer, refused, given}
use Rattle.bits.specs.Over.{over}
use Rattle.transfer.specs.Page.{page_bytes}
use Rattle.view.specs.Looks.{leaves}
use Rattle.pages.specs.Pixels.{screen_of, page_screen_answer, page_screen_left}
use Rattle.pages.proofs.Pages.{screen_long}

-- by the two tests: it is a page, there is room
abbrev tests : Bool → Bool → Answer ℕ
tests s t = cond s (cond t (given capture_bytes) (refused 6)) (refused 10)

module _ (page out : List ℕ) where
  pub no-page : (length page ≡ page_bytes → ⊥) → (refused 10 ≡ page_screen_answer page out) × (out ≡ page_screen_left page out)
  unfolding page_screen_answer page_screen_left leaves
  no-page h = rw (ne_eqb (length page) page_bytes h) (refl, refl)

  pub no_room : length page ≡ page_bytes → length out < capture_bytes → (refused 6 ≡ page_screen_answer page out) × (out ≡ page_screen_left page out)
  unfolding page_screen_answer page_screen_left leaves
  no_room h k = rw (eq-eqb (length page) page_bytes h, lt-leb capture_bytes (length out) k) (refl, refl)

  pub made : (screen : List ℕ) → length page ≡ page_bytes → capture_bytes ≤ length out → screen ≡ screen_of page
      → (given capture_bytes ≡ page_screen_answer page out) × (over 0 capture_bytes screen out ≡ page_screen_left page out)
  unfolding page_screen_answer page_screen_left leaves
  made screen h k e =
      rw (eq-eqb (length page) page_bytes h, le-leb capture_bytes (length out) k) (refl, ap (λ (x : List ℕ). x ++ drop capture_bytes out) e)

  -- an answer that is no refusal: a page was lent, and so many bytes at the front of the output are its screen
  pub page-given : (after : List ℕ) (n : ℕ) → given n ≡ page_screen_answer page out → after ≡ page_screen_left page out
      → (length page ≡ page_bytes) × (take n after ≡ screen_of page)
  unfolding page_screen_answer page_screen_left
  page-given after n e f = go (eqb (length page) page_bytes) (leb capture_bytes (length out)) refl e f
    where
      go : (s t : Bool) → eqb (length page) page_bytes ≡ s → given n ≡ tests s t → after ≡ leaves (tests s t) (screen_of page ++ drop capture_bytes out) out
          → (length page ≡ page_bytes) × (take n after ≡ screen_of page)
      go true true q e f =
          let m : n ≡ capture_bytes = cc in (
            eqb-true (length page) page_bytes q,
            (λ i. take (m i) (f i)) ∙ unfold leaves in take_at (screen_of page) (drop capture_bytes out) capture_bytes (screen_long page),
          )
      go true false q e f = (cc, cc)
      go false t q e f = (cc, cc)
