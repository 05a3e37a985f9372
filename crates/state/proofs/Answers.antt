-- The answers of both calls, refusal by refusal in their order, and what each leaves in what is lent.
use mathlib.Core.Path.{◌≡◌, sym, ap, ◌∙◌}
use mathlib.Core.Bool.{Bool, true, false, cond}
use mathlib.Core.List.{List}
use Prim.Native.Nat.{ℕ}
use native.Mathlib.Omega.{arith}
use borrow.Author.Tests.{eq-eqb, ne_eqb}
use lib.Dec.{eqb}
use lib.ListN.{length}
use Rattle.broken.specs.Broken.{broken, broken_number}
use Rattle.layout.specs.Valid.{Valid}
use Rattle.parts.specs.Parts.{block_bytes}
use Rattle.pulses.specs.Answer.{Answer, refused, given}
use Rattle.state_spans.specs.State.{State, present_in}
use Rattle.state_spans.specs.Coming.{fits, cells_fit, block_from, from_answer, from_block}
use Rattle.state_spans.specs.Going.{Lent, state_of, roomy, laid_all, leaves_lent, to_answer, to_lent}
use Rattle.view.proofs.Refusals.{answers}

-- ---- a state that comes in

module _ (b : List ℕ) (s : State) where
  abbrev pub Outcome : ℕ → List ℕ → Type 0
  Outcome n after = (n ≡ from_answer b s) × (after ≡ from_block b s)

  -- a refusal leaves the block
  kept_at : (n : ℕ) → (n ≡ 0 → ⊥) → n ≡ from_answer b s → Outcome n b
  kept_at n z e = (e, unfold from_block in rw (sym e, ne_eqb n 0 z))

  pub another-length : (length b ≡ block_bytes → ⊥) → Outcome 1 b
  another-length h = kept_at 1 (λ z. omega arith) (unfold from_answer in rw (ne_eqb (length b) block_bytes h))

  module _ (l : length b ≡ block_bytes) where
    pub misfit : fits s ≡ false → Outcome 8 b
    misfit f = kept_at 8 (λ z. omega arith) (unfold from_answer in rw (eq-eqb (length b) block_bytes l, f))

    module _ (f : fits s ≡ true) where
      pub over-three : cells_fit s ≡ false → Outcome 9 b
      over-three c = kept_at 9 (λ z. omega arith) (unfold from_answer in rw (eq-eqb (length b) block_bytes l, f, c))

      told : cells_fit s ≡ true → (n : ℕ) → n ≡ broken_number (broken (block_from s)) → n ≡ from_answer b s
      unfolding from_answer
      told c n e = rw (eq-eqb (length b) block_bytes l, f, c) e

      pub by-the-rules : cells_fit s ≡ true → (n : ℕ) (after : List ℕ) → n ≡ broken_number (broken (block_from s)) → after ≡ cond (eqb n 0) (block_from s) b → Outcome n after
      unfolding from_block
      by-the-rules c n after e g = (told c n e, g ∙ ap (λ (k : ℕ). cond (eqb k 0) (block_from s) b) (told c n e))

-- ---- a block that goes out

module _ (b : List ℕ) (l : Lent) where
  abbrev pub Told : Answer ℕ → Lent → Type 0
  Told a after = (a ≡ to_answer b l) × (after ≡ to_lent b l)

  pub keeps-all : (n : ℕ) → refused n ≡ to_answer b l → Told (refused n) l
  unfolding to_lent leaves_lent
  keeps-all n e = (e, ap (λ (a : Answer ℕ). leaves_lent a (laid_all (state_of b) l) l) e)

  pub no_room : Valid b → roomy l ≡ false → Told (refused 6) l
  no_room v r = keeps-all 6 (unfold to_answer in ap (λ (t : Bool). cond t (given (present_in (state_of b))) (refused 6)) (sym r) ∙ answers b _ v)

  pub goes-out : Valid b → roomy l ≡ true → (n : ℕ) (after : Lent) → n ≡ present_in (state_of b) → after ≡ laid_all (state_of b) l → Told (given n) after
  unfolding to_lent leaves_lent
  goes-out v r n after e g =
      let told : given n ≡ to_answer b l =
      unfold to_answer in ap given e ∙ ap (λ (t : Bool). cond t (given (present_in (state_of b))) (refused 6)) (sym r) ∙ answers b _ v in
      (told, g ∙ ap (λ (a : Answer ℕ). leaves_lent a (laid_all (state_of b) l) l) told)
