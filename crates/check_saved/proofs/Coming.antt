-- More bytes than a block has are refused by 1, however many there are.
use Rattle.std.proofs.Common.{◌≡◌, ℕ, List, ◌++◌, length, length-append, ap, sym, ◌∙◌, arith}
use borrow.Author.Tests.{ne_eqb}
use Rattle.parts.specs.Parts.{block_bytes}
use Rattle.view.specs.Refusal.{refusal_of}
use Rattle.check_saved.specs.Verdict.{verdict_line, check_text}
use Rattle.check_saved.specs.Checked.{saved_bytes}

other_length : (b : List ℕ) → (length b ≡ block_bytes → ⊥) → refusal_of b ≡ 1
unfolding refusal_of
other_length b h = rw (ne_eqb (length b) block_bytes h)

pub however_it-goes_on : (came rest : List ℕ) → length came ≡ saved_bytes → check_text came ≡ check_text (came ++ rest)
unfolding check_text
however_it-goes_on came rest long =
    ap verdict_line (other_length came (λ k. omega arith) ∙ sym (other_length (came ++ rest) (λ k. omega (arith, length-append came rest))))
